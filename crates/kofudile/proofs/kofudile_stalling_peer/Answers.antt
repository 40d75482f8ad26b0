-- `kofudile::kofudile_stalling_peer` meets its contract. Assumes nothing.
use Rattle.kofudile.proofs.kofudile_stalling_peer.Goals as goal

pub returns : goal.returns
returns c = cc

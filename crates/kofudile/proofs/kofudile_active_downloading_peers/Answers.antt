-- `kofudile::kofudile_active_downloading_peers` meets its contract. Assumes nothing.
use Rattle.kofudile.proofs.kofudile_active_downloading_peers.Goals as goal

pub returns : goal.returns
returns c = cc

-- `kofudile::kofudile_peer_in_staller_cooldown` meets its contract. Assumes nothing.
use Rattle.kofudile.proofs.kofudile_peer_in_staller_cooldown.Goals as goal

pub returns : goal.returns
returns c = cc

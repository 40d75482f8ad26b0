-- `kofudile::kofudile_peer_has_expired_pending` meets its contract. Assumes nothing.
use Rattle.kofudile.proofs.kofudile_peer_has_expired_pending.Goals as goal

pub returns : goal.returns
returns c = cc

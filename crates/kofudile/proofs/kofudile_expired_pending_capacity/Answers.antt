-- `kofudile::kofudile_expired_pending_capacity` meets its contract. Assumes nothing.
use Rattle.kofudile.proofs.kofudile_expired_pending_capacity.Goals as goal

pub returns : goal.returns
returns c = cc

-- `kofudile::kofudile_pending_owner` meets its contract. Assumes nothing.
use Rattle.kofudile.proofs.kofudile_pending_owner.Goals as goal

pub returns : goal.returns
returns c = cc

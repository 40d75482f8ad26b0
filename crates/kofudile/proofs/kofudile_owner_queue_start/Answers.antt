-- `kofudile::kofudile_owner_queue_start` meets its contract. Assumes nothing.
use Rattle.kofudile.proofs.kofudile_owner_queue_start.Goals as goal

pub returns : goal.returns
returns c = cc

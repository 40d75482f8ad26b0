-- `kofudile::kofudile_max_pending_blocks` meets its contract. Assumes nothing.
use Rattle.kofudile.proofs.kofudile_max_pending_blocks.Goals as goal

pub returns : goal.returns
returns c = cc

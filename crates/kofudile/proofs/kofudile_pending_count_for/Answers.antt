-- `kofudile::kofudile_pending_count_for` meets its contract. Assumes nothing.
use Rattle.kofudile.proofs.kofudile_pending_count_for.Goals as goal

pub returns : goal.returns
returns c = cc

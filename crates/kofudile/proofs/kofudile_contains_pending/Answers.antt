-- `kofudile::kofudile_contains_pending` meets its contract. Assumes nothing.
use Rattle.kofudile.proofs.kofudile_contains_pending.Goals as goal

pub returns : goal.returns
returns c = cc

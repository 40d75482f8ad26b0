-- `kofudile::kofudile_pending_high_water` meets its contract. Assumes nothing.
use Rattle.kofudile.proofs.kofudile_pending_high_water.Goals as goal

pub returns : goal.returns
returns c = cc

-- `kofudile::kofudile_front_interval_ewma_ms` meets its contract. Assumes nothing.
use Rattle.kofudile.proofs.kofudile_front_interval_ewma_ms.Goals as goal

pub returns : goal.returns
returns c = cc

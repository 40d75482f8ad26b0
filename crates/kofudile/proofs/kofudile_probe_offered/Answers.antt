-- `kofudile::kofudile_probe_offered` meets its contract. Assumes nothing.
use Rattle.kofudile.proofs.kofudile_probe_offered.Goals as goal

pub returns : goal.returns
returns c = cc

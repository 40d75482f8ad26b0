-- `kofudile::kofudile_effective_owner_timeout` meets its contract. Assumes nothing.
use Rattle.kofudile.proofs.kofudile_effective_owner_timeout.Goals as goal

pub returns : goal.returns
returns c = cc

-- `kofudile::kofudile_stall_timeout` meets its contract. Assumes nothing.
use Rattle.kofudile.proofs.kofudile_stall_timeout.Goals as goal

pub returns : goal.returns
returns c = cc

-- `kofudile::kofudile_stall_decay_floor` meets its contract. Assumes nothing.
use Rattle.kofudile.proofs.kofudile_stall_decay_floor.Goals as goal

pub returns : goal.returns
returns c = cc

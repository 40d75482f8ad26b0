-- `pace::stall_decay_floor` meets its contract. Assumes nothing.
use Rattle.model.specs.Pace.{stall_decay_floor}
use Rattle.pace.proofs.stall_decay_floor.Goals as goal

pub returns : goal.returns
unfolding stall_decay_floor
returns c = c.decay_floor.ensures

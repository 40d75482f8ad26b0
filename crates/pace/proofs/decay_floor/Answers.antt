-- `pace::decay_floor` meets its contract. Assumes nothing.
use Rattle.model.specs.Pace.{decay_floor}
use Rattle.pace.proofs.decay_floor.Goals as goal

pub returns : goal.returns
unfolding decay_floor
returns c = cc

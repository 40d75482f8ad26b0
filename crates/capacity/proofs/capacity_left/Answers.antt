-- `capacity::capacity_left` meets its contract. Assumes nothing.
use mathlib.Core.Bool.{and-true}
use Rattle.model.specs.Capacity.{capacity_left}
use Rattle.model.specs.Lists.{every}
use Rattle.capacity.proofs.capacity_left.Goals as goal

pub returns : goal.returns
unfolding capacity_left every
returns c = rw (c.within-bytes.ensures, and-true)

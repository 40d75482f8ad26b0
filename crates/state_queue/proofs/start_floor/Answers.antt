-- `state_queue::start_floor` meets its contract. Assumes nothing.
use native.Mathlib.Numerals.{add-one}
use borrow.Author.Tests.{lt-ltb, le-ltb}
use Rattle.state_queue.specs.Steps.{start_floor}
use Rattle.state_queue.proofs.start_floor.Goals as goal

pub returns-then-removed-start : goal.returns-then-removed-start
unfolding start_floor
returns-then-removed-start c = rw (lt-ltb _ _ c.if-removed-start.true) (add-one c.args.removed)

pub returns : goal.returns
unfolding start_floor
returns c = rw (le-ltb _ _ c.if-removed-start.false)

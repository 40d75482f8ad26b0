-- `watch::apply_side_stuck` meets its contract. Assumes nothing.
use Rattle.watch.specs.Answers.{stuck_busy, stuck_idle}
use Rattle.watch.proofs.apply_side_stuck.Goals as goal

pub returns-in_default : goal.returns-in_default
returns-in_default c = λ w e t. rw c.in_default.is

pub returns-then-busy : goal.returns-then-busy
returns-then-busy c = let a = c.args in λ w e t. stuck_busy a.height a.clock w e t c.in-Some.is c.if-busy.true c.stuck_still-still.ensures c.evicted_by.ensures

pub returns : goal.returns
returns c = let a = c.args in λ w e t. stuck_idle a.height a.clock w e t c.in-Some.is c.if-busy.false c.stuck_still-still.ensures

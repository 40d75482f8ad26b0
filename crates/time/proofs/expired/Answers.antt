-- `time::expired` meets its contract. Assumes nothing.
use Rattle.model.specs.Time.{expired}
use Rattle.laws.specs.Numbers.{present_none, present_some}
use Rattle.time.proofs.expired.Goals as goal

pub returns-then-start-eq0 : goal.returns-then-start-eq0
unfolding expired
returns-then-start-eq0 c = rw (c.if-start-eq0.true, present_none)

pub returns : goal.returns
unfolding expired
returns c = rw (present_some _ c.if-start-eq0.false, c.age.ensures)

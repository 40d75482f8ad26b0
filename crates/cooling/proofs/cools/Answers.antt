-- `cooling::cools` meets its contract. Assumes nothing.
use Rattle.model.specs.Cooling.{cools}
use Rattle.laws.specs.Numbers.{present_none, present_some}
use Rattle.cooling.proofs.cools.Goals as goal

pub returns-then-stored-eq0 : goal.returns-then-stored-eq0
unfolding cools
returns-then-stored-eq0 c = rw (c.if-stored-eq0.true, present_none)

pub returns : goal.returns
unfolding cools
returns c = rw (present_some _ c.if-stored-eq0.false, c.age.ensures)

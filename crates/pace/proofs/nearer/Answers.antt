-- `pace::nearer` meets its contract. Assumes nothing.
use borrow.Author.Tests.{le-leb, lt-leb}
use Rattle.model.specs.Pace.{nearer}
use Rattle.pace.proofs.nearer.Goals as goal

pub returns-then-m-sample : goal.returns-then-m-sample
unfolding nearer
returns-then-m-sample c = rw (le-leb _ _ c.if-m-sample.true)

pub returns : goal.returns
unfolding nearer
returns c = rw (lt-leb _ _ c.if-m-sample.false)

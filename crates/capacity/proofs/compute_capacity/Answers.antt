-- `capacity::compute_capacity` meets its contract. Assumes nothing.
use borrow.Author.Tests.{eq-eqb, ne_eqb, lt-ltb, le-ltb}
use Rattle.capacity.specs.OnNumbers.{capacity_by}
use Rattle.capacity.proofs.compute_capacity.Goals as goal

pub returns-then-batch-eq0 : goal.returns-then-batch-eq0
unfolding capacity_by
returns-then-batch-eq0 c = rw (← c.batch_limit-batch.ensures, eq-eqb _ _ c.if-batch-eq0.true)

pub returns-then-bytes-mean : goal.returns-then-bytes-mean
unfolding capacity_by
returns-then-bytes-mean c = rw (← c.batch_limit-batch.ensures, ← c.byte_capacity-bytes.ensures, ne_eqb _ _ c.if-batch-eq0.false, lt-ltb _ _ c.if-bytes-mean.true)

pub returns : goal.returns
unfolding capacity_by
returns c = rw (← c.batch_limit-batch.ensures, ← c.byte_capacity-bytes.ensures, ne_eqb _ _ c.if-batch-eq0.false, le-ltb _ _ c.if-bytes-mean.false)

-- `capacity::peer_inflight` meets its contract. Assumes nothing.
use native.Mathlib.Omega.{arith}
use Rattle.model.specs.Capacity.{peer_inflight}
use Rattle.laws.specs.Numbers.{second_le_greater}
use Rattle.capacity.proofs.peer_inflight.Goals as goal

pub div_ceil-share-requires : goal.div_ceil-share-requires
div_ceil-share-requires c = omega (arith, c.greater.ensures, second_le_greater c.args.f.eligible 1)

pub returns-then-f : goal.returns-then-f
unfolding peer_inflight
returns-then-f c = rw c.if-f.true (cc)

pub returns : goal.returns
unfolding peer_inflight
returns c = rw c.if-f.false

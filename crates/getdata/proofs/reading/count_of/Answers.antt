-- `getdata::reading::count_of` meets its contract. Assumes nothing.
use native.Mathlib.Omega.{arith}
use Rattle.getdata.proofs.Reader.{count_two, count_one}
use Rattle.getdata.proofs.reading.count_of.Goals as goal

pub returns-then-first : goal.returns-then-first
returns-then-first c =
    let first = c.byte_at-first in
    let low = c.byte_at in
    let high = c.byte_at-then-first in
    let p = c.args.payload.now in (
      count_two p first.result first.ensures.0 low.result high.result c.if-first.true low.ensures.0 high.ensures.0,
      omega (arith, low.ensures.1, high.ensures.1),
    )

pub returns : goal.returns
returns c =
    let first = c.byte_at-first in
    (count_one c.args.payload.now first.result first.ensures.0 c.if-first.false, omega (arith, first.ensures.1))

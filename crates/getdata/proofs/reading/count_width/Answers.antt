-- `getdata::reading::count_width` meets its contract. Assumes nothing.
use native.Mathlib.Omega.{arith}
use Rattle.getdata.proofs.Reader.{width_two, width_one}
use Rattle.getdata.proofs.reading.count_width.Goals as goal

pub returns-then-byte_at : goal.returns-then-byte_at
returns-then-byte_at c = (width_two c.args.payload.now c.byte_at.result c.byte_at.ensures.0 c.if-byte_at.true, omega arith)

pub returns : goal.returns
returns c = (width_one c.args.payload.now c.byte_at.result c.byte_at.ensures.0 c.if-byte_at.false, omega arith)

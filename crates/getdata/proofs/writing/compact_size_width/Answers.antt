-- `getdata::writing::compact_size_width` meets its contract. Assumes nothing.
use mathlib.Core.Path.{sym, ap, ◌∙◌}
use native.Mathlib.Omega.{arith}
use lib.ListN.{length}
use Rattle.getdata.specs.Bytes.{size_one, size_three, length_little_endian}
use Rattle.getdata.proofs.writing.compact_size_width.Goals as goal

pub returns-then-n-ge-IN_TWO : goal.returns-then-n-ge-IN_TWO
returns-then-n-ge-IN_TWO c = let n = c.args.n in sym (ap length (size_three n (omega (arith, c.if-n-ge-IN_TWO.true))) ∙ omega (arith, length_little_endian 2 n))

pub returns : goal.returns
returns c = sym (ap length (size_one c.args.n (omega (arith, c.if-n-ge-IN_TWO.false))))

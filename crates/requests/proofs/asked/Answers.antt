-- `requests::asked` meets its contract. Assumes nothing.
use mathlib.Core.Path.{sym}
use Prim.Native.Nat.{◌/◌}
use native.Mathlib.Omega.{arith}
use Rattle.laws.specs.Numbers.{lesser_first, lesser_second}
use Rattle.requests.proofs.asked.Goals as goal

pub returns-then-n-heights : goal.returns-then-n-heights
returns-then-n-heights c = sym (lesser_first (c.args.hashes / 4) c.args.heights c.if-n-heights.true)

pub returns : goal.returns
returns c = sym (lesser_second (c.args.hashes / 4) c.args.heights (omega (arith, c.if-n-heights.false)))

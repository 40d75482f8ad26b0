-- `time::reached` meets its contract. Assumes nothing.
use mathlib.Core.Path.{ap, ◌∙◌}
use mathlib.Core.Bool.{not, ◌&&◌}
use Prim.Native.Nat.{ℕ}
use native.Mathlib.Omega.{arith}
use lib.Dec.{eqb, leb}
use Rattle.time.specs.Limit.{limit_reached}
use Rattle.time.proofs.reached.Goals as goal

pub returns : goal.returns
returns c clock timeout e =
    let s = c.args.start in
    ap (λ (n : ℕ). not (eqb s 0) && leb s n) e ∙ limit_reached clock timeout s (omega (arith, c.ranges.start))

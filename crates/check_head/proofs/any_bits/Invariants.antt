-- `check_head::any_bits` meets its contract: the OR of the words passed is 0 exactly when all of them are. Assumes nothing.
use mathlib.Core.Path.{◌≡◌}
use Prim.Native.Nat.{◌≤◌, ◌-◌}
use lib.Dec.{eqb}
use Rattle.facts.specs.Words.{zeros}
use Rattle.check_head.proofs.any_bits.Given as goal

abbrev pub invariant-loop-k : goal.invariant-loop-k
invariant-loop-k l = (l.k ≤ l.n) × (eqb l.acc 0 ≡ zeros l.w l.a l.k)

abbrev pub decreases-loop-k : goal.decreases-loop-k
decreases-loop-k l = l.n - l.k

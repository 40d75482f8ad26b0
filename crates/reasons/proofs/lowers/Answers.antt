-- `reasons::lowers` meets its contract. The code's table is the model's; past its end nothing lowers. Assumes nothing.
use mathlib.Core.Path.{sym, ap}
use mathlib.Core.List.{List}
use Prim.Native.Nat.{ℕ}
use native.Mathlib.Omega.{arith}
use lib.Dec.{eqb}
use lib.ListN.{get_or, get_or-eq_default}
use Rattle.model.specs.Reasons.{lowering, lowers}
use Rattle.reasons.proofs.lowers.Goals as goal

pub returns-then-reason-gt10 : goal.returns-then-reason-gt10
unfolding lowers
returns-then-reason-gt10 c = sym (ap (λ (x : ℕ). eqb x 1) (get_or-eq_default lowering 0 {n = c.args.reason} (omega arith)))

pub returns : goal.returns
unfolding lowers
returns c = ap (λ (l : List ℕ). eqb (get_or l c.args.reason 0) 1) c.table-lowering.ensures

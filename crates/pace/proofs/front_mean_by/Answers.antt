-- `pace::front_mean_by` meets its contract. Assumes nothing.
use mathlib.Core.Path.{ap}
use Prim.Native.Nat.{ℕ, ◌+◌, ◌-◌}
use native.Mathlib.Omega.{arith}
use native.Mathlib.Numerals.{add-one}
use borrow.Author.Tests.{lt-ltb, le-ltb}
use Rattle.model.specs.Numbers.{max_front_mean}
use Rattle.model.specs.Pace.{front_mean_by}
use Rattle.laws.specs.PaceKept.{nearer_le}
use Rattle.pace.specs.Stored.{mean_by_some}
use Rattle.pace.proofs.front_mean_by.Goals as goal

pub returns-then-sample-lt-MIN_SAMPLE : goal.returns-then-sample-lt-MIN_SAMPLE
unfolding front_mean_by
returns-then-sample-lt-MIN_SAMPLE c = rw (lt-ltb _ _ c.if-sample-lt-MIN_SAMPLE.true)

pub returns-then-mean-eq0 : goal.returns-then-mean-eq0
unfolding front_mean_by
returns-then-mean-eq0 c = rw (le-ltb _ _ c.if-sample-lt-MIN_SAMPLE.false, c.if-mean-eq0.true, add-one)

pub overflow_add-result-2 : goal.overflow_add-result-2
overflow_add-result-2 c =
    let start = c in
    omega (arith, c.nearer.ensures, nearer_le (start.args.mean - 1) start.args.sample max_front_mean (omega arith) (omega arith))

pub returns : goal.returns
unfolding front_mean_by
returns c =
    rw (le-ltb _ _ c.if-sample-lt-MIN_SAMPLE.false, mean_by_some _ _ c.if-mean-eq0.false) (ap (λ (n : ℕ). n + 1) c.nearer.ensures)

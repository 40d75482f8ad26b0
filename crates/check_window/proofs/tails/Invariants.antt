-- `check_window::tails` meets its contract: the OR of the places passed is 0 exactly when they are blank. Assumes nothing.
use Rattle.std.proofs.Common.{◌≡◌, ◌+◌, ◌-◌, ◌≤◌, eqb}
use Rattle.facts.specs.Words.{count, blank_at}
use Rattle.facts.specs.Flags.{all_below}
use Rattle.check_window.proofs.tails.Given as goal

abbrev pub invariant-loop-k : goal.invariant-loop-k
invariant-loop-k l = (l.n ≡ count l.w) × (l.m ≡ 256 - l.n) × (l.k ≤ l.m) × (eqb l.acc 0 ≡ all_below l.k (λ j. blank_at l.w (l.n + j)))

abbrev pub decreases-loop-k : goal.decreases-loop-k
decreases-loop-k l = l.m - l.k

-- `check_window::records` meets its contract: the records passed fit, the sum is theirs, and the table is `oldest_of` of them at every seat. Assumes nothing.
use Rattle.std.proofs.Common.{◌≡◌, ℕ, ◌-◌, ◌*◌, ◌≤◌, true, length, get_or}
use Rattle.facts.specs.Words.{record_fits, sum_of, oldest_of}
use Rattle.facts.specs.Words.{count}
use Rattle.facts.specs.Flags.{all_below}
use Rattle.check_window.proofs.records.Given as goal

abbrev pub invariant-loop-i : goal.invariant-loop-i
invariant-loop-i l = (l.n ≡ count l.w) × (l.i ≤ l.n) × (all_below l.i (record_fits l.w) ≡ true) × (l.sum ≡ sum_of l.w l.i) × (l.sum ≤ l.i * 4294967295) × ((s : ℕ) → get_or l.first s 0 ≡ oldest_of l.w s l.i) × (length l.first ≡ 256)

abbrev pub decreases-loop-i : goal.decreases-loop-i
decreases-loop-i l = l.n - l.i

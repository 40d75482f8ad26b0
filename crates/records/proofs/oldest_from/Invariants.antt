-- `records::oldest_from` meets its contract: at the loop's head the flag and the number hold the oldest from i on, and it is
-- above the floor. Assumes nothing.
use mathlib.Core.Path.{◌≡◌}
use mathlib.Core.Bool.{Bool, true, false}
use Prim.Native.Nat.{ℕ, suc, ◌≤◌}
use lib.ListN.{take, drop}
use Rattle.model.specs.Seats.{oldest}
use Rattle.model.specs.Layout.{rows}
use Rattle.records.proofs.oldest_from.Given as goal

-- the flag and the number hold a stored time; where it is missing, the number is the greatest
abbrev pub Kept : Bool → ℕ → ℕ → Type 0
Kept true low n = n ≡ suc low
Kept false low n = (low ≡ 18446744073709551615) × (n ≡ 0)

abbrev pub invariant-loop-i : goal.invariant-loop-i
invariant-loop-i l = (l.floor ≤ l.low) × Kept l.any l.low (oldest l.owner (drop l.i (take l.count (rows 256 l.words))))

-- `records::lowest_place` meets its contract: at the loop's head `best` is the place of the lowest from i on. Assumes nothing.
use Rattle.std.specs.Prelude.{Some}
use mathlib.Core.Path.{◌≡◌}
use mathlib.Core.List.{List}
use Prim.Native.Nat.{ℕ, ◌≤◌, ◌<◌}
use lib.ListN.{take, drop}
use Rattle.model.specs.Lists.{count}
use Rattle.model.specs.Records.{lowest}
use Rattle.model.specs.Layout.{entry_at, rows}
use Rattle.records.proofs.lowest_place.Given as goal

-- from i on: no record yet, or the lowest is at `best`
pub data Lowest (ws : List ℕ) (m best low i : ℕ) : Type 0 where
  none : i ≡ m → best ≡ m → low ≡ 18446744073709551615 → Lowest ws m best low i
  some : i ≤ best → best < m → lowest (drop i (take m (rows 256 ws))) ≡ Some (entry_at (drop best ws)) → (entry_at (drop best ws)).height ≡ low
      → Lowest ws m best low i

abbrev pub invariant-loop-i : goal.invariant-loop-i
invariant-loop-i l = Lowest l.words l.count l.best l.low l.i

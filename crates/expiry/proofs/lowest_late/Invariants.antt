-- `expiry::lowest_late` meets its contract: at the loop's head `best` is the place of the lowest late record from i on. Assumes nothing.
use Rattle.std.specs.Prelude.{None, Some, Option}
use mathlib.Core.Path.{◌≡◌}
use mathlib.Core.Bool.{Bool}
use mathlib.Core.List.{List}
use Prim.Native.Nat.{ℕ, ◌<◌}
use lib.ListN.{take, drop}
use Rattle.model.specs.Lists.{count, select}
use Rattle.model.specs.Records.{lowest}
use Rattle.model.specs.Layout.{entry_at, rows, decode}
use Rattle.model.specs.declared.Entry.{Entry}
use Rattle.expiry.specs.Late.{late}
use Rattle.expiry.proofs.lowest_late.Given as goal

-- the lowest from i on that p holds of
abbrev pub from : (Entry → Bool) → List ℕ → ℕ → ℕ → Option Entry
from p ws m i = lowest (select p (drop i (take m (rows 256 ws))))

-- from i on: none that p holds of yet, or the lowest of them is at `best`
pub data Lowest (p : Entry → Bool) (ws : List ℕ) (m best low i : ℕ) : Type 0 where
  none : best ≡ m → low ≡ 18446744073709551615 → from p ws m i ≡ None → Lowest p ws m best low i
  some : best < m → from p ws m i ≡ Some (entry_at (drop best ws)) → (entry_at (drop best ws)).height ≡ low → Lowest p ws m best low i

abbrev pub invariant-loop-i : goal.invariant-loop-i
invariant-loop-i l = Lowest (late l.clock l.timeout (decode l.words).starts) l.words l.count l.best l.low l.i

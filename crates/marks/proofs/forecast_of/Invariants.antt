-- `marks::forecast_of` meets its contract: at the loop's head the forecast is that of the records from i on. Assumes nothing.
use mathlib.Core.Path.{◌≡◌}
use mathlib.Core.Bool.{Bool}
use mathlib.Core.List.{List}
use Prim.Native.Nat.{ℕ, ◌-◌, ◌*◌, ◌≤◌}
use lib.ListN.{length, drop}
use Rattle.model.specs.Lists.{select}
use Rattle.model.specs.Records.{sum}
use Rattle.model.specs.Time.{owner_download_expired, active}
use Rattle.model.specs.Window.{Window}
use Rattle.model.specs.Layout.{window_of}
use Rattle.model.specs.declared.Entry.{Entry}
use Rattle.marks.proofs.forecast_of.Given as goal

abbrev pub goes : ℕ → Window → Entry → Bool
goes clock w e = owner_download_expired e.owner (active w) clock w

pub record Inv (clock count : ℕ) (ws : List ℕ) (x y i : ℕ) : Type 0 where
  pub few : x ≤ count - i
  pub low : y ≤ 4294967295 * (count - i)
  pub blocks : x ≡ length (select (goes clock (window_of ws)) (drop i (window_of ws).queue.pending))
  pub bytes : y ≡ sum (select (goes clock (window_of ws)) (drop i (window_of ws).queue.pending))

abbrev pub invariant-loop-i : goal.invariant-loop-i
invariant-loop-i l = Inv l.clock l.count l.words l.f.blocks l.f.bytes l.i

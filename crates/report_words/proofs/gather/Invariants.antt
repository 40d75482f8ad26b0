-- `report_words::gather` meets its contract: at the loop's head what was gathered, and what is left to gather from i on, is all that goes. Assumes nothing.
use mathlib.Core.Path.{◌≡◌}
use mathlib.Core.List.{List, ◌++◌}
use Prim.Native.Nat.{ℕ, ◌≤◌}
use lib.ListN.{length, take, drop}
use Rattle.model.specs.Layout.{decode}
use Rattle.laws.specs.Marks.{gone_by}
use Rattle.report_words.specs.Report.{releases_of}
use Rattle.report_words.proofs.gather.Given as goal

pub record Inv (ws : List ℕ) (m : ℕ) (ms new : List ℕ) (i n : ℕ) : Type 0 where
  pub few : n ≤ i
  pub is : releases_of n new ++ gone_by (drop i ms) (drop i (take m (decode ws).entries)) ≡ gone_by ms (take m (decode ws).entries)

abbrev pub invariant-loop-i : goal.invariant-loop-i
invariant-loop-i l = Inv l.words l.count l.marks l.gone l.i l.n

-- `column::keep_unmarked` meets its contract. The invariant of its loop: the first j words of the column and what is unmarked from i on are all that
-- is kept, and the words from i on are as they were; what stands between is no one's. Assumes nothing.
use mathlib.Core.Path.{◌≡◌}
use mathlib.Core.List.{List, ◌++◌}
use Prim.Native.Nat.{ℕ, ◌≤◌}
use lib.ListN.{length, get_or, take, drop}
use Rattle.column.specs.Edits.{keep_by}
use Rattle.column.proofs.keep_unmarked.Given as goal

pub record Inv (l ms col : List ℕ) (i j : ℕ) : Type 0 where
  pub ahead : j ≤ i
  pub long : length col ≡ length l
  pub rest : (k : ℕ) → i ≤ k → get_or col k 0 ≡ get_or l k 0
  pub is : take j col ++ keep_by (drop i ms) (drop i l) ≡ keep_by ms l

abbrev pub invariant-loop-i : goal.invariant-loop-i
invariant-loop-i l = Inv l.initial.col l.marks l.col l.i l.j

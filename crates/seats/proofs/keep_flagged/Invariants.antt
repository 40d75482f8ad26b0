-- `seats::keep_flagged` meets its contract: at the loop's head the column has the first i words of the result, and then its own. Assumes nothing.
use mathlib.Core.Path.{◌≡◌}
use mathlib.Core.List.{List}
use Prim.Native.Nat.{ℕ}
use Rattle.model.specs.Seats.{keep_seats}
use Rattle.model.specs.LettingGo.{flagged}
use Rattle.column.proofs.Laws.{over}
use Rattle.seats.proofs.keep_flagged.Given as goal

-- the result
abbrev pub T : List ℕ → List ℕ → List ℕ
T fs l = keep_seats (flagged fs) 0 l

abbrev pub invariant-loop-i : goal.invariant-loop-i
invariant-loop-i l = l.col ≡ over l.i (T l.flags l.initial.col) l.initial.col

-- `lines::cells::grouped` meets its contract. At the loop's head the last k places are filled. Assumes nothing.
use mathlib.Core.Path.{◌≡◌}
use Rattle.lines.specs.Cells.{filled, rest_after}
use Rattle.lines.proofs.cells.grouped.Given as goal

abbrev pub invariant-loop-k : goal.invariant-loop-k
invariant-loop-k l = (l.l ≡ filled l.k l.n) × (l.rest ≡ rest_after l.k l.n)

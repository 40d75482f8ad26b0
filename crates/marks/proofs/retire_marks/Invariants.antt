-- `marks::retire_marks` meets its contract: at the loop's head the first i marks are made. Assumes nothing.
use Rattle.laws.specs.Batches.{retire_reason}
use Rattle.marks.proofs.Marked.{Marked}
use Rattle.marks.proofs.retire_marks.Given as goal

abbrev pub invariant-loop-i : goal.invariant-loop-i
invariant-loop-i l = Marked (retire_reason l.height) l.words l.i l.marks

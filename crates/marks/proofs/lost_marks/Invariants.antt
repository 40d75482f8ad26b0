-- `marks::lost_marks` meets its contract: at the loop's head the first i marks are made. Assumes nothing.
use Rattle.model.specs.LettingGo.{lost_reason, flagged}
use Rattle.marks.proofs.Marked.{Marked}
use Rattle.marks.proofs.lost_marks.Given as goal

abbrev pub invariant-loop-i : goal.invariant-loop-i
invariant-loop-i l = Marked (lost_reason (flagged l.flags) l.fn.reason) l.words l.i l.marks

-- `marks::sweep_marks` meets its contract: at the loop's head the first i marks are made. Assumes nothing.
use Rattle.model.specs.Layout.{window_of}
use Rattle.model.specs.LettingGo.{sweep_reason}
use Rattle.marks.proofs.Marked.{Marked}
use Rattle.marks.proofs.sweep_marks.Given as goal

abbrev pub invariant-loop-i : goal.invariant-loop-i
invariant-loop-i l = Marked (sweep_reason l.clock l.timeout (window_of l.words)) l.words l.i l.marks

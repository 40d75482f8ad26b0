-- `plan_scan::scan_chain` meets its contract: at the loop's head the heights below are looked at. Assumes nothing.
use Rattle.model.specs.Layout.{window_of}
use Rattle.plan_scan.specs.Turns.{Turning}
use Rattle.plan_scan.proofs.scan_chain.Given as goal

abbrev pub invariant-loop-height : goal.invariant-loop-height
invariant-loop-height l =
    Turning (window_of l.words).queue.pending l.chain l.staged.hashes.now l.refused.hashes.now l.initial.hashes l.initial.heights l.initial.index l.from l.last l.count l.full l.frontier l.height l.n l.first l.next l.hashes l.heights l.index

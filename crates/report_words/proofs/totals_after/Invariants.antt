-- `report_words::totals_after` meets its contract: at the loop's head the totals are those after the first i. Assumes nothing.
use mathlib.Core.Path.{◌≡◌}
use Rattle.model.specs.LettingGo.{total_after, frontier_after}
use Rattle.report_words.specs.Report.{releases_of}
use Rattle.report_words.proofs.totals_after.Given as goal

abbrev pub invariant-loop-i : goal.invariant-loop-i
invariant-loop-i l = (l.t.total ≡ total_after (releases_of l.i l.gone) l.total) × (l.t.frontier ≡ frontier_after (releases_of l.i l.gone) l.frontier)

-- The invariant of `report::write_report`: the first i places are written. Assumes nothing.
use Rattle.std.proofs.Common.{◌≡◌}
use Rattle.report.proofs.Lists.{written}
use Rattle.report.proofs.write_report.Given as goal

abbrev pub invariant-loop-i : goal.invariant-loop-i
invariant-loop-i l = l.report ≡ written l.i l.gone l.initial.report

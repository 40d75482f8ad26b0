-- `script::number_in` meets its contract: at the loop's head i columns are read. Assumes nothing.
use mathlib.Core.Path.{◌≡◌}
use Rattle.script.specs.Text.{number_in}
use Rattle.script.proofs.number_in.Given as goal

abbrev pub invariant-loop-i : goal.invariant-loop-i
invariant-loop-i l = l.n ≡ number_in l.line l.from l.i

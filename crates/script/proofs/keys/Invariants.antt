-- `script::keys` meets its contract: at the loop's head i seats have their keys. Assumes nothing.
use mathlib.Core.Path.{◌≡◌}
use Rattle.script.specs.Given.{keys}
use Rattle.script.proofs.keys.Given as goal

abbrev pub invariant-loop-i : goal.invariant-loop-i
invariant-loop-i l = l.key-items ≡ keys l.i

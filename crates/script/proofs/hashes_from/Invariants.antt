-- `script::hashes_from` meets its contract: at the loop's head i hashes are written. Assumes nothing.
use mathlib.Core.Path.{◌≡◌}
use Rattle.script.specs.Given.{hashes}
use Rattle.script.proofs.hashes_from.Given as goal

abbrev pub invariant-loop-i : goal.invariant-loop-i
invariant-loop-i g l = l.l ≡ hashes g.row.WORDS l.i l.first

-- `ledger::tally` meets its contract: at the loop's head i places are counted. Assumes nothing.
use mathlib.Core.Path.{◌≡◌}
use Rattle.ledger.specs.Book.{tallied}
use Rattle.ledger.proofs.tally.Given as goal

abbrev pub invariant-loop-i : goal.invariant-loop-i
invariant-loop-i l = l.m ≡ tallied l.gone l.i l.initial.m

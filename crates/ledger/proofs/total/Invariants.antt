-- `ledger::total` meets its contract. Assumes nothing.
use mathlib.Core.Path.{◌≡◌}
use Rattle.ledger.specs.Book.{total}
use Rattle.ledger.proofs.total.Given as goal

abbrev pub invariant-loop-x : goal.invariant-loop-x
invariant-loop-x l = l.s ≡ total l.x-index l.x-items

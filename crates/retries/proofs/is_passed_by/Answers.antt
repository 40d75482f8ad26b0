-- `retries::is_passed_by` meets its contract. Assumes nothing.
use mathlib.Core.Path.{sym, ◌∙◌}
use borrow.Author.Tests.{le-ltb}
use Rattle.model.specs.Planning.{is_pending}
use Rattle.retries.proofs.is_passed_by.Goals as goal

pub returns-then-names : goal.returns-then-names
returns-then-names c =
    let a = c.args in
    rw (le-ltb a.height a.floor c.if-height-floor.false, sym c.names.ensures ∙ c.if-names.true)

pub returns : goal.returns
unfolding is_pending
returns c =
    let a = c.args in
    rw (le-ltb a.height a.floor c.if-height-floor.false, sym c.names.ensures ∙ c.if-names.false) c.contains_pending.ensures

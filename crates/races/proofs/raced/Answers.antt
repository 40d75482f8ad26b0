-- `races::raced` meets its contract. Assumes nothing.
use mathlib.Core.Path.{sym, ◌∙◌}
use native.Mathlib.Omega.{arith}
use borrow.Author.Tests.{eq-eqb, ne_eqb}
use Rattle.races.proofs.raced.Goals as goal

pub returns-then-not-equal : goal.returns-then-not-equal
returns-then-not-equal c = (λ clock w. rw (sym c.equal.ensures ∙ c.if-not-equal.true), λ clock k. tt)

pub returns-then-source-alternate : goal.returns-then-source-alternate
returns-then-source-alternate c = (λ clock w. rw (sym c.equal.ensures ∙ c.if-not-equal.false, ne_eqb _ _ c.if-source-alternate.true), λ clock k. tt)

pub returns : goal.returns
returns c = (λ clock w. rw (sym c.equal.ensures ∙ c.if-not-equal.false, eq-eqb _ _ c.if-source-alternate.false), λ clock k. (omega arith, omega arith))

-- `races::resolve_as` meets its contract. Assumes nothing.
use mathlib.Core.Path.{sym, ◌∙◌}
use Rattle.races.proofs.resolve_as.Goals as goal

pub returns-then-equal : goal.returns-then-equal
returns-then-equal c = (λ clock w. rw (c.in-Waiting.is, sym c.equal.ensures ∙ c.if-equal.true), λ clock k. tt)

pub returns-in-Idle : goal.returns-in-Idle
returns-in-Idle c = (λ clock w. rw c.in-Idle.is, λ clock k. tt)

pub returns-else-equal : goal.returns-else-equal
returns-else-equal c = (λ clock w. rw (c.in-Waiting.is, sym c.equal.ensures ∙ c.if-equal.false), λ clock k. tt)

pub returns-in-Racing : goal.returns-in-Racing
returns-in-Racing c = (λ clock w. rw c.in-Racing.is (c.raced.ensures.0 clock w), λ clock k. c.raced.ensures.1 clock (rw c.in-Racing.is at k))

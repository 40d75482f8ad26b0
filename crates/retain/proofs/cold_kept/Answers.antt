-- `retain::cold_kept` meets its contract. Assumes nothing.
use mathlib.Core.Path.{sym, ◌∙◌}
use mathlib.Core.Bool.{◌&&◌}
use Rattle.retain.proofs.cold_kept.Goals as goal

pub returns-then-is_kept : goal.returns-then-is_kept
returns-then-is_kept c = rw (c.in-Waiting.is, sym c.is_kept.ensures ∙ c.if-is_kept.true)

pub returns-then-a-b : goal.returns-then-a-b
returns-then-a-b c = rw (c.in-Racing.is, (λ i. sym c.is_kept-a.ensures i && sym c.is_kept-b.ensures i) ∙ c.if-a-b.true)

pub returns-else-is_kept : goal.returns-else-is_kept
returns-else-is_kept c = rw (c.in-Waiting.is, sym c.is_kept.ensures ∙ c.if-is_kept.false)

pub returns-else-a-b : goal.returns-else-a-b
returns-else-a-b c = rw (c.in-Racing.is, (λ i. sym c.is_kept-a.ensures i && sym c.is_kept-b.ensures i) ∙ c.if-a-b.false)

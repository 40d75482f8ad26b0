-- `retain::observation_kept` meets its contract. Assumes nothing.
use mathlib.Core.Path.{sym, ◌∙◌}
use Rattle.retain.proofs.observation_kept.Goals as goal

pub returns-then-is_kept : goal.returns-then-is_kept
returns-then-is_kept c = rw (c.in-Armed.is, sym c.is_kept.ensures ∙ c.if-is_kept.true)

pub returns-then-is_kept-2 : goal.returns-then-is_kept-2
returns-then-is_kept-2 c = rw (c.in-Swept.is, sym c.is_kept-in-Swept.ensures ∙ c.if-is_kept-2.true)

pub returns-else-is_kept : goal.returns-else-is_kept
returns-else-is_kept c = rw (c.in-Armed.is, sym c.is_kept.ensures ∙ c.if-is_kept.false)

pub returns-else-is_kept-2 : goal.returns-else-is_kept-2
returns-else-is_kept-2 c = rw (c.in-Swept.is, sym c.is_kept-in-Swept.ensures ∙ c.if-is_kept-2.false)

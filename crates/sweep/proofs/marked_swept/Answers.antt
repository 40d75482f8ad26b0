-- `sweep::marked_swept` meets its contract. Assumes nothing.
use mathlib.Core.Path.{sym, ◌∙◌}
use Rattle.sweep.proofs.marked_swept.Goals as goal

pub returns-then-is_among : goal.returns-then-is_among
returns-then-is_among c = rw (c.in-Armed.is, sym c.is_among.ensures ∙ c.if-is_among.true)

pub returns-else-is_among : goal.returns-else-is_among
returns-else-is_among c = rw (c.in-Armed.is, sym c.is_among.ensures ∙ c.if-is_among.false)

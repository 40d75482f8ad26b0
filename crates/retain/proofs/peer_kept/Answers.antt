-- `retain::peer_kept` meets its contract. Assumes nothing.
use mathlib.Core.Path.{sym, ◌∙◌}
use Rattle.retain.proofs.peer_kept.Goals as goal

pub returns-then-is_kept : goal.returns-then-is_kept
returns-then-is_kept c = rw (c.in-Some.is, sym c.is_kept.ensures ∙ c.if-is_kept.true)

pub returns-else-is_kept : goal.returns-else-is_kept
returns-else-is_kept c = rw (c.in-Some.is, sym c.is_kept.ensures ∙ c.if-is_kept.false)

-- `watch::stuck_still` meets its contract. Assumes nothing.
use mathlib.Core.Path.{sym, ◌∙◌}
use Rattle.watch.proofs.stuck_still.Goals as goal

pub returns-in_default : goal.returns-in_default
returns-in_default c = rw c.in_default.is c.stuck_anew.ensures

pub returns-then-same_both : goal.returns-then-same_both
returns-then-same_both c = rw (c.in-Some.is, sym c.same_both.ensures ∙ c.if-same_both.true)

pub returns : goal.returns
returns c = rw (c.in-Some.is, sym c.same_both.ensures ∙ c.if-same_both.false) c.stuck_anew-2.ensures

-- `reasons::lowered` meets its contract. Assumes nothing.
use mathlib.Core.Path.{sym, ◌∙◌}
use Rattle.model.specs.Reasons.{lowered}
use Rattle.reasons.proofs.lowered.Goals as goal

pub returns-then-lowers : goal.returns-then-lowers
unfolding lowered
returns-then-lowers c = rw (sym c.lowers.ensures ∙ c.if-lowers.true) c.lesser.ensures

pub returns : goal.returns
unfolding lowered
returns c = rw (sym c.lowers.ensures ∙ c.if-lowers.false)

-- `cooling::kept` meets its contract. Assumes nothing.
use mathlib.Core.Path.{sym, ◌∙◌}
use Rattle.cooling.proofs.kept.Goals as goal

pub returns-then-cools : goal.returns-then-cools
returns-then-cools c = rw (sym c.cools.ensures ∙ c.if-cools.true)

pub returns : goal.returns
returns c = rw (sym c.cools.ensures ∙ c.if-cools.false)

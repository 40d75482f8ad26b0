-- `cold_front::hedge_offered` meets its contract. Assumes nothing.
use mathlib.Core.Path.{ap, ◌∙◌}
use Rattle.model.specs.Races.{racing_with, hedge_offered}
use Rattle.model.specs.declared.ColdFront.{ColdFront}
use Rattle.cold_front.proofs.hedge_offered.Goals as goal

pub returns : goal.returns
unfolding hedge_offered
returns c = c.racing_with.ensures ∙ ap (λ (x : ColdFront). racing_with x c.args.source c.args.h) c.get_cold-cold.ensures

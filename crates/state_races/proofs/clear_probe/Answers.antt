-- `state_races::clear_probe` meets its contract. Assumes nothing.
use mathlib.Core.Path.{refl, subst}
use native.Mathlib.Omega.{arith}
use Rattle.model.specs.Lists.{all}
use Rattle.model.specs.Window.{Window, with_probe, no_seats}
use Rattle.laws.specs.Whole.{Holds}
use Rattle.state_races.proofs.clear_probe.Goals as goal

pub set_plan-requires : goal.set_plan-requires
unfolding all
set_plan-requires c = (c.requires, (tt, record { words = refl; few = omega arith; zeros = refl }))

pub returns : goal.returns
returns c = subst (λ (v : Window). Holds (with_probe v.races.probe v.races.planned no_seats v) c.clear_racers.new.words) c.set_plan.ensures.is c.clear_racers.ensures

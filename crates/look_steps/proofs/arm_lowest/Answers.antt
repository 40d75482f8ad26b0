-- `look_steps::arm_lowest` meets its contract. Assumes nothing.
use mathlib.Core.Path.{refl, ap, subst, ◌∙◌}
use Rattle.model.specs.Layout.{window_of}
use Rattle.model.specs.Observation.{armed_by}
use Rattle.model.specs.Window.{with_observation}
use Rattle.model.specs.declared.Observation.{Observation}
use Rattle.laws.specs.Whole.{Holds}
use Rattle.look_steps.proofs.arm_lowest.Goals as goal

pub returns : goal.returns
returns c =
    let w = window_of c.args.words.now in
    let e = c.armed_by-armed.ensures ∙ ap armed_by c.lowest_expired-lowest.ensures in
    record { left = subst (λ (o : Observation). Holds (with_observation o w) c.set_observation.new.words) e c.set_observation.ensures; told = refl }

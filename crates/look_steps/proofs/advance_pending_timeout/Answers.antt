-- `look_steps::advance_pending_timeout` meets its contract. Assumes nothing.
use mathlib.Core.Path.{sym, subst, ◌∙◌}
use Rattle.model.specs.Layout.{window_of}
use Rattle.model.specs.declared.Observation.{Observation}
use Rattle.laws.specs.Sound.{SoundObservation}
use Rattle.look_steps.specs.Steps.{timeout_is}
use Rattle.look_steps.proofs.advance_pending_timeout.Goals as goal

pub blame_late-requires : goal.blame_late-requires
blame_late-requires c =
    let start = c in
    (start.requires.0, start.requires.1, subst (λ (o : Observation). SoundObservation o) (sym c.get_observation-observation.ensures ∙ c.in-Swept.is) start.requires.1.watch.observation)

pub spend_armed-requires : goal.spend_armed-requires
spend_armed-requires c =
    let start = c in
    (start.requires.0, start.requires.1, subst (λ (o : Observation). SoundObservation o) (sym c.get_observation-observation.ensures ∙ c.in-Armed.is) start.requires.1.watch.observation)

pub returns-in-Unarmed : goal.returns-in-Unarmed
returns-in-Unarmed c = timeout_is c.args.clock (window_of c.args.words.now) (sym c.get_observation-observation.ensures ∙ c.in-Unarmed.is) c.arm_lowest.ensures

pub returns-in-Swept : goal.returns-in-Swept
returns-in-Swept c = timeout_is c.args.clock (window_of c.args.words.now) (sym c.get_observation-observation.ensures ∙ c.in-Swept.is) c.blame_late.ensures

pub returns-in-Armed : goal.returns-in-Armed
returns-in-Armed c = timeout_is c.args.clock (window_of c.args.words.now) (sym c.get_observation-observation.ensures ∙ c.in-Armed.is) c.spend_armed.ensures

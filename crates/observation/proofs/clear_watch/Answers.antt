-- `observation::clear_watch` meets its contract. Assumes nothing.
use mathlib.Core.Path.{sym, ap, ◌∙◌}
use Rattle.model.specs.Layout.{window_of}
use Rattle.model.specs.Races.{is_racing}
use Rattle.model.specs.Window.{Window, with_cold, with_observation}
use Rattle.model.specs.declared.ColdFront.TheVariants.{Idle}
use Rattle.model.specs.declared.Observation.TheVariants.{Unarmed}
use Rattle.look_steps.specs.Steps.{and_next}
use Rattle.observation.specs.Look.{busy_racing, busy_idle}
use Rattle.observation.proofs.clear_watch.Goals as goal

pub returns-then-is_racing : goal.returns-then-is_racing
returns-then-is_racing c =
    let h = and_next (λ w. with_observation Unarmed w) c.set_stall.ensures c.set_observation.ensures in
    let e = c.is_racing.ensures ∙ ap is_racing (c.get_cold-cold.ensures ∙ ap (λ (v : Window). v.races.cold) h.is) in
    busy_racing (window_of c.args.words.now) (sym e ∙ c.if-is_racing.true) h

pub returns : goal.returns
returns c =
    let h = and_next (λ w. with_observation Unarmed w) c.set_stall.ensures c.set_observation.ensures in
    let e = c.is_racing.ensures ∙ ap is_racing (c.get_cold-cold.ensures ∙ ap (λ (v : Window). v.races.cold) h.is) in
    busy_idle (window_of c.args.words.now) (sym e ∙ c.if-is_racing.false) (and_next (λ w. with_cold Idle w) h c.set_cold.ensures)

-- `observation::observe_idle` meets its contract. Assumes nothing.
use mathlib.Core.Path.{ap, ◌∙◌}
use Rattle.model.specs.Layout.{window_of}
use Rattle.model.specs.Races.{Hedge, advance_cold_front}
use Rattle.model.specs.Observation.{hedge_says}
use Rattle.watch.specs.Answers.{blocked_of}
use Rattle.laws.specs.LooksKept.{cold_sound}
use Rattle.laws.specs.Parts.{sound_cold}
use Rattle.look_steps.specs.Steps.{sound_in}
use Rattle.observation.specs.Look.{look, idle_sees}
use Rattle.observation.proofs.observe_idle.Goals as goal

pub after_cold_front-requires : goal.after_cold_front-requires
after_cold_front-requires c =
    let start = c in
    let a = start.args in
    let w = window_of a.words.now in
    let h = c.advance_cold_front-asked.ensures.1 in
    (h.whole, sound_in (sound_cold start.requires.1 (advance_cold_front a.next a.clock w).cold (cold_sound a.clock a.next w start.requires.1)) h)

pub returns : goal.returns
returns c =
    let a = c.args in
    let w = window_of a.words.now in
    let e = c.hedge_answer-hedge.ensures ∙ ap (λ (x : Hedge). blocked_of (hedge_says x)) c.advance_cold_front-asked.ensures.0 in
    λ n f b. idle_sees (look n f b a.staged a.highest) a.next a.clock w c.advance_cold_front-asked.ensures.1
    (c.after_cold_front.ensures (advance_cold_front a.next a.clock w).asks e)

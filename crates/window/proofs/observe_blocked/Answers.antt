-- `window::observe_blocked` meets its contract. Assumes nothing.
use mathlib.Core.Path.{refl}
use Rattle.model.specs.Numbers.{read_clock}
use Rattle.refusals.specs.Outcomes.{admitted}
use Rattle.refusals.specs.Arrays.{taken, not_taken, miscounted, performed_in}
use Rattle.refusals.specs.Passed.{call_passed}
use Rattle.observation.specs.Look.{look}
use Rattle.window.specs.Plain.{look_so}
use Rattle.window.proofs.observe_blocked.Goals as goal

pub returns-in_err-words : goal.returns-in_err-words
returns-in_err-words c = call_passed _ _ c.from_residual.ensures.1 _ _ _ (miscounted _ _ _ _ (not_taken c.args.words.now c.as_mut_array.result c.as_mut_array.ensures.cases c.ok_or.ensures.value c.in_err-words.was))

pub returns-in_err-admitted : goal.returns-in_err-admitted
returns-in_err-admitted c =
    performed_in _ _ (taken c.args.words.now c.as_mut_array.result c.as_mut_array.ensures.cases c.ok_or.ensures.value c.in_ok-words.was) _ _ _
    (call_passed _ _ c.from_residual-in_err-admitted.ensures.1 _ _ _ c.in_err-admitted.ensures.refusal)

pub observe_blocked-r-requires : goal.observe_blocked-r-requires
unfolding read_clock
observe_blocked-r-requires c =
    let g = admitted _ _ 0 _ c.in_ok-admitted.ensures.refusal refl in
    (g.whole, g.sound_at, c.widened-at.ensures.1)

pub set_clock-requires : goal.set_clock-requires
set_clock-requires c = c.observe_blocked-r.ensures.0.whole

pub returns : goal.returns
returns c =
    let a = c.args in
    performed_in _ _ (taken c.args.words.now c.as_mut_array.result c.as_mut_array.ensures.cases c.ok_or.ensures.value c.in_ok-words.was) _ _ _
    (look_so _ _ _ (λ i. look (c.widened-at.ensures.0 i) a.frontier a.busy a.staged (c.widened-top.ensures.0 i)) _ _ _ _ c.in_ok-admitted.ensures.refusal refl _ c.observe_blocked-r.ensures c.set_clock.ensures)

-- `window::confirm_prefix_probe` meets its contract. Assumes nothing.
use mathlib.Core.Path.{refl}
use Rattle.model.specs.Numbers.{read_clock}
use Rattle.model.specs.Refusals.{at}
use Rattle.refusals.specs.Outcomes.{admitted}
use Rattle.refusals.specs.Arrays.{taken, not_taken, miscounted, performed_in}
use Rattle.refusals.specs.Passed.{call_passed}
use Rattle.window.specs.Plain.{both_ok, probe_peers, probe_so}
use Rattle.window.proofs.confirm_prefix_probe.Goals as goal

pub returns-in_err-words : goal.returns-in_err-words
returns-in_err-words c = call_passed _ _ c.from_residual.ensures.1 _ _ _ (miscounted _ _ _ _ (not_taken c.args.words.now c.as_mut_array.result c.as_mut_array.ensures.cases c.ok_or.ensures.value c.in_err-words.was))

pub returns-in_err-admitted : goal.returns-in_err-admitted
returns-in_err-admitted c =
    performed_in _ _ (taken c.args.words.now c.as_mut_array.result c.as_mut_array.ensures.cases c.ok_or.ensures.value c.in_ok-words.was) _ _ _
    (call_passed _ _ c.from_residual-in_err-admitted.ensures.1 _ _ _ (both_ok (at _) _ _ _ c.alternates_ok-seats.ensures _ _ c.in_err-admitted.ensures.refusal))

pub confirm_prefix_probe-requires : goal.confirm_prefix_probe-requires
unfolding read_clock
confirm_prefix_probe-requires c =
    let g = admitted _ _ 0 _ c.in_ok-admitted.ensures.refusal refl in
    (g.whole, (g.sound_at, probe_peers _ _ _ c.alternates_ok-seats.ensures g.passes.peers))

pub set_clock-requires : goal.set_clock-requires
set_clock-requires c = c.confirm_prefix_probe.ensures.whole

pub returns : goal.returns
returns c =
    performed_in _ _ (taken c.args.words.now c.as_mut_array.result c.as_mut_array.ensures.cases c.ok_or.ensures.value c.in_ok-words.was) _ _ _
    (probe_so _ _ _ _ _ _ _ _ (both_ok (at _) _ _ _ c.alternates_ok-seats.ensures _ _ c.in_ok-admitted.ensures.refusal) refl c.confirm_prefix_probe.ensures c.set_clock.ensures)

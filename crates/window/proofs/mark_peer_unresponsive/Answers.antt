-- `window::mark_peer_unresponsive` meets its contract. Assumes nothing.
use mathlib.Core.Path.{refl}
use Rattle.model.specs.Refusals.{Change, checks}
use Rattle.refusals.specs.Outcomes.{admitted}
use Rattle.refusals.specs.Arrays.{taken, not_taken, miscounted, performed_in}
use Rattle.refusals.specs.Passed.{call_passed}
use Rattle.window.specs.Changes.{unresponsive_so}
use native.Mathlib.Omega.{arith}
use Rattle.model.specs.Numbers.{read_clock}
use Rattle.model.specs.Cooling.{key_of}
use Rattle.model.specs.Refusals.{marks_unresponsive}
use Rattle.laws.specs.Kept.{seat_le}
use Rattle.window.proofs.mark_peer_unresponsive.Goals as goal

pub returns-in_err-words : goal.returns-in_err-words
returns-in_err-words c = call_passed _ _ c.from_residual.ensures.1 _ _ _ (miscounted _ _ _ _ (not_taken c.args.words.now c.as_mut_array.result c.as_mut_array.ensures.cases c.ok_or.ensures.value c.in_err-words.was))

pub returns-in_err-admitted : goal.returns-in_err-admitted
returns-in_err-admitted c =
    performed_in _ _ (taken c.args.words.now c.as_mut_array.result c.as_mut_array.ensures.cases c.ok_or.ensures.value c.in_ok-words.was) _ _ _
    (call_passed _ _ c.from_residual-in_err-admitted.ensures.1 _ _ _ c.in_err-admitted.ensures.refusal)

pub mark_peer_unresponsive-requires : goal.mark_peer_unresponsive-requires
unfolding read_clock key_of
mark_peer_unresponsive-requires c =
    let a = c.args in
    let x : Change = marks_unresponsive a.clock a.source in
    let e = c.in_ok-admitted.ensures.refusal in
    let g = admitted (checks x) _ 0 0 e refl in
    (g.whole, (omega (arith, seat_le a.source g.passes.peers), (g.sound_at.clock, g.sound.keys.most a.source)))

pub set_clock-requires : goal.set_clock-requires
set_clock-requires c = c.mark_peer_unresponsive.ensures.whole

pub returns : goal.returns
returns c =
    let a = c.args in
    let e = c.in_ok-admitted.ensures.refusal in
    performed_in _ _ (taken c.args.words.now c.as_mut_array.result c.as_mut_array.ensures.cases c.ok_or.ensures.value c.in_ok-words.was) _ _ _
    (unresponsive_so a.clock a.source _ c.mark_peer_unresponsive.new.words c.set_clock.new.words 0 e refl c.mark_peer_unresponsive.ensures c.set_clock.ensures)

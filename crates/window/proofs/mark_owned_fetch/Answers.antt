-- `window::mark_owned_fetch` meets its contract. Assumes nothing.
use mathlib.Core.Path.{refl}
use Rattle.model.specs.Refusals.{Change, checks}
use Rattle.refusals.specs.Outcomes.{admitted}
use Rattle.refusals.specs.Arrays.{taken, not_taken, miscounted, performed_in}
use Rattle.refusals.specs.Passed.{call_passed}
use Rattle.window.specs.Changes.{fetch_so}
use Rattle.model.specs.Numbers.{read_clock}
use Rattle.model.specs.Refusals.{fetches}
use Rattle.model.specs.Says.{fetch_answer}
use Rattle.laws.specs.Kept.{seat_le}
use Rattle.window.proofs.mark_owned_fetch.Goals as goal

pub returns-in_err-words : goal.returns-in_err-words
returns-in_err-words c = call_passed _ _ c.from_residual.ensures.1 _ _ _ (miscounted _ _ _ _ (not_taken c.args.words.now c.as_mut_array.result c.as_mut_array.ensures.cases c.ok_or.ensures.value c.in_err-words.was))

pub returns-in_err-admitted : goal.returns-in_err-admitted
returns-in_err-admitted c =
    performed_in _ _ (taken c.args.words.now c.as_mut_array.result c.as_mut_array.ensures.cases c.ok_or.ensures.value c.in_ok-words.was) _ _ _
    (call_passed _ _ c.from_residual-in_err-admitted.ensures.1 _ _ _ c.in_err-admitted.ensures.refusal)

pub mark_owned_fetch-r-requires : goal.mark_owned_fetch-r-requires
unfolding read_clock
mark_owned_fetch-r-requires c =
    let a = c.args in
    let x : Change = fetches a.clock a.owner a.h a.height a.is_staged a.byte_headroom a.count_headroom in
    let e = c.in_ok-admitted.ensures.refusal in
    let g = admitted (checks x) _ 0 0 e refl in
    (g.whole, (g.sound_at, seat_le a.owner g.passes.peers))

pub set_clock-requires : goal.set_clock-requires
set_clock-requires c = c.mark_owned_fetch-r.ensures.1.whole

pub returns : goal.returns
returns c =
    let a = c.args in
    let e = c.in_ok-admitted.ensures.refusal in
    performed_in _ _ (taken c.args.words.now c.as_mut_array.result c.as_mut_array.ensures.cases c.ok_or.ensures.value c.in_ok-words.was) _ _ _
    (fetch_so a.clock a.owner a.h a.height a.is_staged a.byte_headroom a.count_headroom _ c.mark_owned_fetch-r.new.words c.set_clock.new.words 0 e refl (fetch_answer c.mark_owned_fetch-r.result) c.mark_owned_fetch-r.ensures.0 c.mark_owned_fetch-r.ensures.1 c.set_clock.ensures)

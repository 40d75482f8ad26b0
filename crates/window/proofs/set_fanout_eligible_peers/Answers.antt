-- `window::set_fanout_eligible_peers` meets its contract. Assumes nothing.
use mathlib.Core.Path.{refl}
use Rattle.model.specs.Refusals.{Change, checks, sets_fanout}
use Rattle.refusals.specs.Outcomes.{admitted}
use Rattle.refusals.specs.Arrays.{taken, not_taken, miscounted, performed_in}
use Rattle.refusals.specs.Passed.{call_passed}
use Rattle.window.specs.Changes.{fanout_so}
use Rattle.window.proofs.set_fanout_eligible_peers.Goals as goal

pub returns-in_err-words : goal.returns-in_err-words
returns-in_err-words c = call_passed _ _ c.from_residual.ensures.1 _ _ _ (miscounted _ _ _ _ (not_taken c.args.words.now c.as_mut_array.result c.as_mut_array.ensures.cases c.ok_or.ensures.value c.in_err-words.was))

pub returns-in_err-admitted : goal.returns-in_err-admitted
returns-in_err-admitted c =
    performed_in _ _ (taken c.args.words.now c.as_mut_array.result c.as_mut_array.ensures.cases c.ok_or.ensures.value c.in_ok-words.was) _ _ _
    (call_passed _ _ c.from_residual-in_err-admitted.ensures.1 _ _ _ c.in_err-admitted.ensures.refusal)

pub set_fanout_eligible_peers-requires : goal.set_fanout_eligible_peers-requires
set_fanout_eligible_peers-requires c =
    let a = c.args in
    let x : Change = sets_fanout a.clock a.n in
    let e = c.in_ok-admitted.ensures.refusal in
    (admitted (checks x) _ 0 0 e refl).whole

pub set_clock-requires : goal.set_clock-requires
set_clock-requires c = c.set_fanout_eligible_peers.ensures.whole

pub returns : goal.returns
returns c =
    let a = c.args in
    let e = c.in_ok-admitted.ensures.refusal in
    performed_in _ _ (taken c.args.words.now c.as_mut_array.result c.as_mut_array.ensures.cases c.ok_or.ensures.value c.in_ok-words.was) _ _ _
    (fanout_so a.clock a.n _ c.set_fanout_eligible_peers.new.words c.set_clock.new.words 0 e refl c.set_fanout_eligible_peers.ensures c.set_clock.ensures)

-- `plan_calls::next_peer_request` meets its contract. Assumes nothing.
use Rattle.std.proofs.Common.{true, ap, refl, length}
use Rattle.model.specs.Numbers.{read_clock}
use Rattle.model.specs.Says.{next_request_answer}
use Rattle.model.specs.Refusals.{Change, Checks, at, checking, seat_ok, plan_refusal}
use Rattle.laws.specs.Kept.{seat_le}
use Rattle.refusals.specs.Outcomes.{admitted}
use Rattle.planning.specs.Proposes.{lent_by, planned_by}
use Rattle.refusals.specs.Arrays.{taken, not_taken, miscounted}
use Rattle.plan_calls.specs.Plans.{plans_in, plans_by, plans_passed, plans_step, checks_by, refused_by, proposes_by}
use Rattle.plan_calls.specs.Refused.{refused_as, lendable}
use Rattle.plan_calls.proofs.next_peer_request.Goals.{Start}
use Rattle.plan_calls.proofs.next_peer_request.Goals as goal

-- the change that it is
abbrev is : Start → Change
is s = let a = s.args in plans_by a.retry a.clock a.source (lent_by a.given) (length a.hashes.now) (length a.heights.now)

pub returns-in_err-words : goal.returns-in_err-words
returns-in_err-words c =
    plans_passed _ _ c.from_residual.ensures.1 next_request_answer _ (is (goal.at.returns-in_err-words c).Start) _ _ _ _ _
    (miscounted _ _ _ _ (not_taken c.args.words.now c.as_mut_array.result c.as_mut_array.ensures.cases c.ok_or.ensures.value c.in_err-words.was))

pub returns-in_err-refused_by : goal.returns-in_err-refused_by
returns-in_err-refused_by c =
    let a = c.args in
    let l = lent_by a.given in
    plans_in _ _ _ _ _ _ _ _ _ _ _ _ (taken c.args.words.now c.as_mut_array.result c.as_mut_array.ensures.cases c.ok_or.ensures.value c.in_ok-words.was)
    (plans_passed _ _ c.from_residual-in_err-refused_by.ensures.1 next_request_answer _ (is (goal.at.returns-in_err-refused_by c).Start) _ _ _ _ _
    (refused_by a.retry a.clock a.source l _ _ _ _ _ (refused_as l _ _ _ _ _ _ _ c.in_err-refused_by.ensures)))

pub next_peer_request-answer-requires : goal.next_peer_request-answer-requires
unfolding read_clock
next_peer_request-answer-requires c =
    let a = c.args in
    let l = lent_by a.given in
    let n = length a.hashes.now in
    let m = length a.heights.now in
    let g = admitted (checking true (at a.clock) (seat_ok a.source) (plan_refusal l n m)) _ _ _ (refused_as l _ _ _ _ _ _ _ c.in_ok-refused_by.ensures) refl in
    let k = lendable l n m _ g.passes.content in
    (g.whole, g.sound_at, c.told-gone, k.hashes, k.heights, k.chain, seat_le a.source g.passes.peers)

pub returns : goal.returns
returns c =
    let a = c.args in
    let l = lent_by a.given in
    let n = length a.hashes.now in
    let m = length a.heights.now in
    let told = checks_by a.retry a.clock a.source l n m in
    plans_in _ _ _ _ _ _ _ _ _ _ _ _ (taken c.args.words.now c.as_mut_array.result c.as_mut_array.ensures.cases c.ok_or.ensures.value c.in_ok-words.was)
    (plans_step _ (is (goal.at.returns c).Start) _ _ _ (refused_by a.retry a.clock a.source l n m _ _ _ (refused_as l _ _ _ _ _ _ _ c.in_ok-refused_by.ensures)) refl
    (ap (λ (k : Checks). k.lets_go) told) a.clock (ap (λ (k : Checks). k.moment) told) c.told-gone
    (planned_by a.retry a.source l a.clock _) (proposes_by a.retry a.clock a.source l n m _)
    _ _ _ _ _ _ _ _ c.next_peer_request-answer.ensures c.set_clock.ensures)

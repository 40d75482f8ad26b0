-- `letting_go::credit_delivery_from` meets its contract. Assumes nothing.
use mathlib.Core.Path.{ap, refl}
use native.Mathlib.Omega.{arith}
use Rattle.model.specs.Numbers.{read_clock}
use Rattle.model.specs.Refusals.{Change, checks, credits}
use Rattle.refusals.specs.Outcomes.{admitted}
use Rattle.laws.specs.Kept.{seat_le}
use Rattle.refusals.specs.Arrays.{taken, not_taken, miscounted}
use Rattle.letting_go.specs.Letting.{lets_in, lets_passed}
use Rattle.letting_go.proofs.Steps.{lets_step}
use Rattle.letting_go.proofs.credit_delivery_from.Goals.{Start}
use Rattle.letting_go.proofs.credit_delivery_from.Goals as goal

-- the change that it is
abbrev is : Start → Change
is s = credits s.args.clock s.args.h s.args.source s.args.height

pub returns-in_err-words : goal.returns-in_err-words
returns-in_err-words c =
    lets_passed _ _ c.from_residual.ensures.1 _ _ (is (goal.at.returns-in_err-words c).Start) _ _ _ (miscounted _ _ _ _ (not_taken c.args.words.now c.as_mut_array.result c.as_mut_array.ensures.cases c.ok_or.ensures.value c.in_err-words.was))

pub returns-in_err-admitted : goal.returns-in_err-admitted
returns-in_err-admitted c =
    lets_in _ _ _ _ _ _ _ _ (taken c.args.words.now c.as_mut_array.result c.as_mut_array.ensures.cases c.ok_or.ensures.value c.in_ok-words.was)
    (lets_passed _ _ c.from_residual-in_err-admitted.ensures.1 _ _ (is (goal.at.returns-in_err-admitted c).Start) _ _ _ c.in_err-admitted.ensures.refusal)

pub credit_delivery_from-n-requires : goal.credit_delivery_from-n-requires
unfolding read_clock
credit_delivery_from-n-requires c =
    let at = c in
    let s = at in
    let g = admitted (checks (is (goal.at.credit_delivery_from-n-requires c).Start)) _ _ _ at.in_ok-admitted.ensures.refusal refl in
    (g.whole, g.sound_at, seat_le s.args.source g.passes.peers)

pub gone_at-requires : goal.gone_at-requires
gone_at-requires c = c.credit_delivery_from-n.ensures.1.whole

pub returns : goal.returns
returns c =
    let at = c in
    let s = at in
    lets_in _ _ _ _ _ _ _ _ (taken c.args.words.now c.as_mut_array.result c.as_mut_array.ensures.cases c.ok_or.ensures.value c.in_ok-words.was)
    (lets_step (is (goal.at.returns c).Start) _ _ _ at.in_ok-admitted.ensures.refusal refl refl _ refl _ 256 s.told-gone (omega arith)
    (ap (credits s.args.clock s.args.h s.args.source) c.widened-pending.ensures.0) _ _ _ _ _ c.credit_delivery_from-n.ensures c.gone_at.ensures)

-- `letting_go::expire_pending` meets its contract. Assumes nothing.
use mathlib.Core.Path.{refl}
use native.Mathlib.Omega.{arith}
use Rattle.model.specs.Numbers.{read_clock}
use Rattle.model.specs.Refusals.{Change, checks, expires}
use Rattle.refusals.specs.Outcomes.{admitted}
use Rattle.refusals.specs.Arrays.{taken, not_taken, miscounted}
use Rattle.letting_go.specs.Letting.{lets_in, lets_passed}
use Rattle.letting_go.proofs.Steps.{lets_step}
use Rattle.letting_go.proofs.expire_pending.Goals.{Start}
use Rattle.letting_go.proofs.expire_pending.Goals as goal

-- the change that it is
abbrev is : Start → Change
is s = expires s.args.clock

pub returns-in_err-words : goal.returns-in_err-words
returns-in_err-words c =
    lets_passed _ _ c.from_residual.ensures.1 _ _ (is (goal.at.returns-in_err-words c).Start) _ _ _ (miscounted _ _ _ _ (not_taken c.args.words.now c.as_mut_array.result c.as_mut_array.ensures.cases c.ok_or.ensures.value c.in_err-words.was))

pub returns-in_err-admitted : goal.returns-in_err-admitted
returns-in_err-admitted c =
    lets_in _ _ _ _ _ _ _ _ (taken c.args.words.now c.as_mut_array.result c.as_mut_array.ensures.cases c.ok_or.ensures.value c.in_ok-words.was)
    (lets_passed _ _ c.from_residual-in_err-admitted.ensures.1 _ _ (is (goal.at.returns-in_err-admitted c).Start) _ _ _ c.in_err-admitted.ensures.refusal)

pub expire_pending-n-requires : goal.expire_pending-n-requires
unfolding read_clock
expire_pending-n-requires c =
    let at = c in
    let s = at in
    let g = admitted (checks (is (goal.at.expire_pending-n-requires c).Start)) _ _ _ at.in_ok-admitted.ensures.refusal refl in
    (g.whole, g.sound_at)

pub gone_at-requires : goal.gone_at-requires
gone_at-requires c = c.expire_pending-n.ensures.1.whole

pub returns : goal.returns
returns c =
    let at = c in
    let s = at in
    lets_in _ _ _ _ _ _ _ _ (taken c.args.words.now c.as_mut_array.result c.as_mut_array.ensures.cases c.ok_or.ensures.value c.in_ok-words.was)
    (lets_step (is (goal.at.returns c).Start) _ _ _ at.in_ok-admitted.ensures.refusal refl refl _ refl _ 256 s.told-gone (omega arith)
    refl _ _ _ _ _ c.expire_pending-n.ensures c.gone_at.ensures)

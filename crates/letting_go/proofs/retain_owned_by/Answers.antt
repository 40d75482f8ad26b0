-- `letting_go::retain_owned_by` meets its contract. Assumes nothing.
use mathlib.Core.Path.{refl}
use native.Mathlib.Omega.{arith}
use Rattle.model.specs.Refusals.{checks, retains}
use Rattle.laws.specs.Pending.{sound_ranged}
use Rattle.refusals.specs.Outcomes.{admitted}
use Rattle.retain.specs.Retains.{sound_roles}
use Rattle.refusals.specs.Arrays.{taken, not_taken, miscounted}
use Rattle.letting_go.specs.Letting.{lets_in, lets_passed, lets_timeless, retain_clock}
use Rattle.letting_go.proofs.retain_owned_by.Goals as goal

pub returns-in_err-words : goal.returns-in_err-words
returns-in_err-words c =
    lets_passed _ _ c.from_residual.ensures.1 _ _ (retains c.args.flags.now) _ _ _ (miscounted _ _ _ _ (not_taken c.args.words.now c.as_mut_array.result c.as_mut_array.ensures.cases c.ok_or.ensures.value c.in_err-words.was))

pub returns-in_err-flags : goal.returns-in_err-flags
returns-in_err-flags c =
    lets_in _ _ _ _ _ _ _ _ (taken c.args.words.now c.as_mut_array.result c.as_mut_array.ensures.cases c.ok_or.ensures.value c.in_ok-words.was)
    (lets_passed _ _ c.from_residual-in_err-flags.ensures.1 _ _ (retains c.args.flags.now) _ _ _ c.in_err-flags.ensures.refusal)

pub retain_owned_by-lost-requires : goal.retain_owned_by-lost-requires
retain_owned_by-lost-requires c =
    let g = admitted (checks (retains c.args.flags.now)) _ _ _ c.in_ok-flags.ensures.refusal refl in
    (g.whole, sound_ranged _ _ g.sound, sound_roles _ _ g.sound)

pub returns : goal.returns
returns c =
    let a = c.args in
    let p = c.retain_owned_by-lost in
    let q = rw c.in_ok-flags.ensures.same at p.ensures in
    lets_in _ _ _ _ _ _ _ _ (taken c.args.words.now c.as_mut_array.result c.as_mut_array.ensures.cases c.ok_or.ensures.value c.in_ok-words.was)
    (lets_timeless _ (retains a.flags.now) _ _ 0 c.in_ok-flags.ensures.refusal refl refl p.result p.new.gone q.0 (omega (arith, q.0)) refl p.new.words q.1 (retain_clock a.flags.now _) q.2 _ refl)

-- `window::confirm_cold_front_hedge` meets its contract. Assumes nothing.
use mathlib.Core.Path.{refl}
use Rattle.model.specs.Refusals.{timeless}
use Rattle.refusals.specs.Outcomes.{admitted}
use Rattle.refusals.specs.Arrays.{taken, not_taken, miscounted, performed_in}
use Rattle.refusals.specs.Passed.{call_passed}
use Rattle.window.specs.Plain.{both_ok, hedge_so}
use Rattle.window.proofs.confirm_cold_front_hedge.Goals as goal

pub returns-in_err-words : goal.returns-in_err-words
returns-in_err-words c = call_passed _ _ c.from_residual.ensures.1 _ _ _ (miscounted _ _ _ _ (not_taken c.args.words.now c.as_mut_array.result c.as_mut_array.ensures.cases c.ok_or.ensures.value c.in_err-words.was))

pub returns-in_err-admitted : goal.returns-in_err-admitted
returns-in_err-admitted c =
    performed_in _ _ (taken c.args.words.now c.as_mut_array.result c.as_mut_array.ensures.cases c.ok_or.ensures.value c.in_ok-words.was) _ _ _
    (call_passed _ _ c.from_residual-in_err-admitted.ensures.1 _ _ _ (both_ok timeless _ _ _ refl _ _ c.in_err-admitted.ensures.refusal))

pub confirm_cold_front_hedge-requires : goal.confirm_cold_front_hedge-requires
confirm_cold_front_hedge-requires c = (admitted _ _ 0 _ c.in_ok-admitted.ensures.refusal refl).whole

pub returns : goal.returns
returns c =
    performed_in _ _ (taken c.args.words.now c.as_mut_array.result c.as_mut_array.ensures.cases c.ok_or.ensures.value c.in_ok-words.was) _ _ _
    (hedge_so _ _ _ _ _ _ (both_ok timeless _ _ _ refl _ _ c.in_ok-admitted.ensures.refusal) refl c.confirm_cold_front_hedge.ensures)

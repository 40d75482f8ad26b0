-- `admission::opening_admitted` meets its contract. Assumes nothing.
use Rattle.std.proofs.Common.{◌≡◌, sym, ap, ◌∙◌, not}
use Rattle.model.specs.Says.{number, refusal_number}
use Rattle.refusals.specs.Arrays.{no_array, array_of}
use Rattle.refusals.specs.Passed.{passed_on}
use Rattle.refusals.specs.Tests.{opening_1, opening_4, opening_5, opening_6, opening_0}
use Rattle.model.specs.Lists.{all}
use Rattle.model.specs.Refusals.{seat_ok, keys_ok}
use Rattle.admission.specs.Admits.{too_high, low_enough}
use Rattle.admission.specs.Opening.{keys_few, keys_start}
use Rattle.admission.proofs.opening_admitted.Goals.{After-all_seats}
use Rattle.admission.proofs.opening_admitted.Goals as goal

pub returns-then-words-ne-WORDS-clause-refusal : goal.returns-then-words-ne-WORDS-clause-refusal
returns-then-words-ne-WORDS-clause-refusal c = opening_1 _ _ _ _ c.if-words-ne-WORDS.true

pub returns-then-not-clock_fits-clause-refusal : goal.returns-then-not-clock_fits-clause-refusal
returns-then-not-clock_fits-clause-refusal c =
    opening_4 _ _ _ _ c.if-words-ne-WORDS.false (too_high _ _ c.clock_fits.ensures (ap not c.if-not-clock_fits.true))

pub returns-then-not-settings_fit-clause-refusal : goal.returns-then-not-settings_fit-clause-refusal
returns-then-not-settings_fit-clause-refusal c =
    opening_5 _ _ _ _ c.if-words-ne-WORDS.false (low_enough _ _ c.clock_fits.ensures (ap not c.if-not-clock_fits.false)) (sym c.settings_fit.ensures ∙ c.if-not-settings_fit.true)

pub returns-in_err-array-clause-refusal : goal.returns-in_err-array-clause-refusal
returns-in_err-array-clause-refusal c =
    let e = c.in_err-array.field-0.0 in
    let t = no_array (λ b. b.now) _ _ _ _ c.as_array.ensures.cases e (sym c.ok_or.ensures.value ∙ c.in_err-array.was) in
    ap refusal_number (passed_on _ e c.from_residual.ensures.1) ∙ ap number t.0
    ∙ opening_6 _ _ _ _ c.if-words-ne-WORDS.false (low_enough _ _ c.clock_fits.ensures (ap not c.if-not-clock_fits.false)) (sym c.settings_fit.ensures ∙ c.if-not-settings_fit.false)
    (sym (keys_few _ t.1))

-- the array is the keys, and all of it was looked at
keys_are : (c : After-all_seats) → (c.in_ok-array.array.now ≡ c.args.keys.now) × (keys_ok c.args.keys.now ≡ c.all_seats.result)
keys_are c =
    let x = c.in_ok-array in
    let k = array_of (λ b. b.now) _ _ _ _ c.as_array.ensures.cases _ (sym c.ok_or.ensures.value ∙ x.was) in
    (k.0, keys_start _ k.1 ∙ ap (all seat_ok) (sym k.0) ∙ sym c.all_seats.ensures)

pub returns-then-not-all_seats-clause-refusal : goal.returns-then-not-all_seats-clause-refusal
returns-then-not-all_seats-clause-refusal c =
    opening_6 _ _ _ _ c.if-words-ne-WORDS.false (low_enough _ _ c.clock_fits.ensures (ap not c.if-not-clock_fits.false)) (sym c.settings_fit.ensures ∙ c.if-not-settings_fit.false)
    ((keys_are (goal.at.returns-then-not-all_seats-clause-refusal c).After-all_seats).1 ∙ c.if-not-all_seats.true)

pub returns : goal.returns
returns c =
    let k = keys_are (goal.at.returns c).After-all_seats in
    record {
      refusal = opening_0 _ _ _ _ c.if-words-ne-WORDS.false (low_enough _ _ c.clock_fits.ensures (ap not c.if-not-clock_fits.false)) (sym c.settings_fit.ensures ∙ c.if-not-settings_fit.false)
          (k.1 ∙ c.if-not-all_seats.false);
      same = k.0;
    }

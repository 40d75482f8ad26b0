-- `admission::admitted` meets its contract. Assumes nothing.
use Rattle.std.proofs.Common.{sym, ap, ◌∙◌}
use Rattle.model.specs.Says.{refusal_number}
use Rattle.refusals.specs.Arrays.{no_array, miscounted}
use Rattle.refusals.specs.Passed.{passed_on}
use Rattle.admission.proofs.admitted.Goals as goal

pub returns-in_err-array-clause-refusal : goal.returns-in_err-array-clause-refusal
returns-in_err-array-clause-refusal c =
    let e = c.in_err-array.field-0.0 in
    ap refusal_number (passed_on _ e c.from_residual.ensures.1)
    ∙ miscounted _ _ _ e (no_array (λ b. b.now) _ _ _ _ c.as_array.ensures.cases e (sym c.ok_or.ensures.value ∙ c.in_err-array.was))

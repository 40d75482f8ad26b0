-- `admission::flags_admitted` meets its contract. Assumes nothing.
use Rattle.std.proofs.Common.{sym, ap, ◌∙◌, refl, ne_eqb}
use Rattle.model.specs.Says.{number, refusal_number}
use Rattle.model.specs.Refusals.{timeless, nothing}
use Rattle.refusals.specs.Arrays.{no_array}
use Rattle.refusals.specs.Passed.{number_some, passed_on}
use Rattle.refusals.specs.Tests.{refused_6}
use Rattle.admission.specs.Content.{before_clock, at_clock}
use Rattle.admission.proofs.flags_admitted.Goals as goal

pub returns-in_err-admitted-clause-refusal : goal.returns-in_err-admitted-clause-refusal
returns-in_err-admitted-clause-refusal c =
    let e = c.in_err-admitted.field-0.0 in
    ap refusal_number (passed_on _ e c.from_residual.ensures.1)
    ∙ before_clock _ _ _ timeless _ nothing (number e) c.in_err-admitted.ensures.refusal (number_some e)

pub returns-in_err-ok_or-clause-refusal : goal.returns-in_err-ok_or-clause-refusal
returns-in_err-ok_or-clause-refusal c =
    let e = c.in_err-ok_or.field-0.0 in
    let g = at_clock _ _ _ c.in_ok-admitted.ensures.refusal in
    let t = no_array (λ b. b.now) _ _ _ _ c.as_array.ensures.cases e (sym c.ok_or.ensures.value ∙ c.in_err-ok_or.was) in
    ap refusal_number (passed_on _ e c.from_residual-in_err-ok_or.ensures.1) ∙ ap number t.0 ∙ refused_6 _ _ _ g.0 g.1 g.2 refl (ne_eqb _ _ t.1)

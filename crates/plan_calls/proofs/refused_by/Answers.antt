-- `plan_calls::refused_by` meets its contract. Assumes nothing.
use mathlib.Core.Path.{refl, ◌∙◌}
use mathlib.Core.Bool.{true}
use Rattle.model.specs.Layout.{window_of}
use Rattle.model.specs.Refusals.{at, seat_ok}
use Rattle.model.specs.Says.{number}
use Rattle.refusals.specs.Passed.{number_some, passed_on}
use Rattle.admission.specs.Content.{refused_before, refused_after}
use Rattle.plan_calls.specs.Refused.{lists_refusal}
use Rattle.plan_calls.proofs.refused_by.Goals as goal

pub returns-in_err-admitted : goal.returns-in_err-admitted
returns-in_err-admitted c =
    let a = c.args in
    let e = c.in_err-admitted.field-0.0 in
    rw (passed_on _ e c.from_residual.ensures.1)
    (refused_before true (at a.clock) (seat_ok a.source) (lists_refusal a.chain a.tip a.hashes a.heights) a.words.now a.room (number e) c.in_err-admitted.ensures.refusal (number_some e))

pub returns : goal.returns
returns c =
    let a = c.args in
    c.lists_refused_by.ensures (window_of a.words.now)
    ∙ refused_after true (at a.clock) (seat_ok a.source) (lists_refusal a.chain a.tip a.hashes a.heights) a.words.now a.room 0 c.in_ok-admitted.ensures.refusal refl

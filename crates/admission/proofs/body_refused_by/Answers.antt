-- `admission::body_refused_by` meets its contract. Assumes nothing.
use mathlib.Core.Path.{refl, ◌∙◌}
use mathlib.Core.Bool.{true}
use native.Mathlib.Omega.{arith}
use Rattle.model.specs.Layout.{window_of}
use Rattle.model.specs.Refusals.{at, body_refusal}
use Rattle.model.specs.Says.{number}
use Rattle.refusals.specs.Passed.{number_some, passed_on}
use Rattle.admission.specs.Content.{refused_before, refused_after, body_over, body_fits}
use Rattle.admission.proofs.body_refused_by.Goals as goal

pub returns-in_err-admitted : goal.returns-in_err-admitted
returns-in_err-admitted c =
    let a = c.args in
    let e = c.in_err-admitted.field-0.0 in
    rw (passed_on _ e c.from_residual.ensures.1)
    (refused_before true (at a.clock) a.peers (body_refusal a.bytes) a.words.now a.room (number e) c.in_err-admitted.ensures.refusal (number_some e))

pub returns-then-bytes-gt-MAX_BODY : goal.returns-then-bytes-gt-MAX_BODY
returns-then-bytes-gt-MAX_BODY c =
    let a = c.args in
    body_over a.bytes (window_of a.words.now) (omega (arith, c.if-bytes-gt-MAX_BODY.true))
    ∙ refused_after true (at a.clock) a.peers (body_refusal a.bytes) a.words.now a.room 0 c.in_ok-admitted.ensures.refusal refl

pub returns : goal.returns
returns c =
    let a = c.args in
    body_fits a.bytes (window_of a.words.now) (omega (arith, c.if-bytes-gt-MAX_BODY.false))
    ∙ refused_after true (at a.clock) a.peers (body_refusal a.bytes) a.words.now a.room 0 c.in_ok-admitted.ensures.refusal refl

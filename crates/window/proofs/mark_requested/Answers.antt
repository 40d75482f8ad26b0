-- `window::mark_requested` meets its contract. Assumes nothing.
use mathlib.Core.Path.{refl}
use Rattle.model.specs.Says.{requested_says, number}
use Rattle.refusals.specs.Arrays.{taken, not_taken, miscounted, performed_in}
use Rattle.refusals.specs.Passed.{number_some, passed_on}
use Rattle.window.specs.Requests.{request_refused, request_ready, request_so}
use Rattle.window.proofs.mark_requested.Goals as goal

pub returns-in_err-words : goal.returns-in_err-words
returns-in_err-words c =
    let a = c.args in
    let e = c.in_err-words.field-0.0 in
    rw (passed_on _ e c.from_residual.ensures.1)
    (request_refused a.clock a.owner a.hashes.now a.heights.now a.next a.byte_headroom a.count_headroom a.words.now (number e) (miscounted _ _ _ _ (not_taken c.args.words.now c.as_mut_array.result c.as_mut_array.ensures.cases c.ok_or.ensures.value c.in_err-words.was)) (number_some e))

pub returns-in_err-admitted : goal.returns-in_err-admitted
returns-in_err-admitted c =
    let a = c.args in
    let e = c.in_err-admitted.field-0.0 in
    performed_in _ _ (taken c.args.words.now c.as_mut_array.result c.as_mut_array.ensures.cases c.ok_or.ensures.value c.in_ok-words.was) _ _ _
    (rw (passed_on _ e c.from_residual-in_err-admitted.ensures.1)
    (request_refused a.clock a.owner a.hashes.now a.heights.now a.next a.byte_headroom a.count_headroom _ (number e) c.in_err-admitted.ensures.refusal (number_some e)))

pub request-requires : goal.request-requires
request-requires c =
    let a = c.args in
    request_ready a.clock a.owner a.hashes.now a.heights.now a.next a.byte_headroom a.count_headroom _ 0 c.in_ok-admitted.ensures.refusal refl

pub returns : goal.returns
returns c =
    let a = c.args in
    let q = c.request in
    performed_in _ _ (taken c.args.words.now c.as_mut_array.result c.as_mut_array.ensures.cases c.ok_or.ensures.value c.in_ok-words.was) _ _ _
    (request_so a.clock a.owner a.hashes.now a.heights.now a.next a.byte_headroom a.count_headroom _ 0 c.in_ok-admitted.ensures.refusal refl (requested_says q.result) q.new.words q.ensures.0 q.ensures.1)

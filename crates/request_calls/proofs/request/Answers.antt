-- `request_calls::request` meets its contract. Assumes nothing.
use mathlib.Core.Path.{refl}
use Rattle.model.specs.Calls.{asks_in}
use Rattle.model.specs.Layout.{window_of}
use Rattle.model.specs.Says.{number}
use Rattle.refusals.specs.Passed.{number_some, passed_on}
use Rattle.request_calls.specs.Answer.{answers_refused, answers}
use Rattle.request_calls.proofs.request.Goals as goal

pub request_list-requires : goal.request_list-requires
request_list-requires c = c.requires

pub returns-in_err-request_list : goal.returns-in_err-request_list
returns-in_err-request_list c =
    let a = c.args in
    let r = c.in_err-request_list.field-0.0 in
    rw (passed_on c.from_residual.result r c.from_residual.ensures.1)
    (answers_refused a.byte_headroom a.count_headroom (asks_in a.hashes.now a.heights.now) a.owner a.next a.clock (window_of a.words.now) (number r) c.in_err-request_list.ensures.0 c.request_list.new.words (number_some r) c.in_err-request_list.ensures.1)

pub has_request_capacity-room-requires : goal.has_request_capacity-room-requires
has_request_capacity-room-requires c = c.request_list.ensures.1.whole

pub set_clock-requires : goal.set_clock-requires
set_clock-requires c = c.request_list.ensures.1.whole

pub returns : goal.returns
returns c =
    let a = c.args in
    let q = c.has_request_capacity-room in
    let s = c.set_clock in
    answers a.byte_headroom a.count_headroom (asks_in a.hashes.now a.heights.now) a.owner a.next a.clock (window_of a.words.now) 0 c.in_ok-request_list.ensures.0 c.request_list.new.words s.new.words q.result q.result refl c.in_ok-request_list.ensures.1 q.ensures refl s.ensures

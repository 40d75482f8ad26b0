-- `request_calls::request_list` meets its contract. Assumes nothing.
use mathlib.Core.Path.{sym, ◌∙◌}
use Rattle.requests.specs.Asks.{asks_length}
use Rattle.request_order.specs.Order.{many_fit}
use Rattle.request_calls.proofs.request_list.Goals as goal

pub request_one-requires : goal.request_one-requires
request_one-requires c =
    let s = c in
    (s.requires, (c.pending_count-m.ensures.0, asks_length s.args.hashes.now s.args.heights.now ∙ sym c.asked-n.ensures ∙ c.if-n-eq1.true))

pub returns-then-n-eq1 : goal.returns-then-n-eq1
returns-then-n-eq1 c = c.request_one.ensures

pub is_many-requires : goal.is_many-requires
is_many-requires c = c.pending_count-m.ensures.1

pub request_in_order-requires : goal.request_in_order-requires
request_in_order-requires c =
    let s = c in
    let m = c.pending_count-m in
    let n = c.asked-n in
    (s.requires, (m.ensures.0, (n.ensures ∙ sym (asks_length s.args.hashes.now s.args.heights.now), many_fit m.result n.result (sym c.is_many.ensures ∙ c.if-is_many.true))))

pub returns-then-is_many : goal.returns-then-is_many
returns-then-is_many c = c.request_in_order.ensures

pub request_each-requires : goal.request_each-requires
request_each-requires c = c.requires

pub returns : goal.returns
returns c = c.request_each.ensures

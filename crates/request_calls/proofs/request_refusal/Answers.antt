-- `request_calls::request_refusal` meets its contract. Assumes nothing.
use mathlib.Core.Path.{sym, ◌∙◌}
use native.Mathlib.Omega.{arith}
use Rattle.model.specs.Calls.{asks_in}
use Rattle.model.specs.Layout.{window_of}
use Rattle.requests.specs.Asks.{asks_length}
use Rattle.request_calls.specs.Listed.{list_pending, list_twice, list_many, list_good}
use Rattle.request_calls.proofs.request_refusal.Goals as goal

pub none_pending-requires : goal.none_pending-requires
none_pending-requires c = c.requires

pub returns-then-not-none_pending : goal.returns-then-not-none_pending
returns-then-not-none_pending c =
    let a = c.args in
    let p = c.none_pending in
    list_pending (asks_in a.hashes.now a.heights.now) (window_of a.words.now) (sym p.ensures ∙ c.if-not-none_pending.true)

pub returns-then-not-listed_once : goal.returns-then-not-listed_once
returns-then-not-listed_once c =
    let a = c.args in
    let l = asks_in a.hashes.now a.heights.now in
    let w = window_of a.words.now in
    let p = c.none_pending in
    let o = c.listed_once in
    list_twice l w (sym p.ensures ∙ c.if-not-none_pending.false) (sym o.ensures ∙ c.if-not-listed_once.true)

pub overflow_sub-count : goal.overflow_sub-count
overflow_sub-count c = omega (arith, c.pending_count-count.ensures.1)

pub returns-then-n-count : goal.returns-then-n-count
returns-then-n-count c =
    let a = c.args in
    let l = asks_in a.hashes.now a.heights.now in
    let w = window_of a.words.now in
    let p = c.none_pending in
    let o = c.listed_once in
    let k = c.asked-n.ensures ∙ sym (asks_length a.hashes.now a.heights.now) in
    list_many l w (sym p.ensures ∙ c.if-not-none_pending.false) (sym o.ensures ∙ c.if-not-listed_once.false)
    c.pending_count-count.result c.asked-n.result c.pending_count-count.ensures.0 k (omega (arith, c.if-n-count.true))

pub returns : goal.returns
returns c =
    let a = c.args in
    let l = asks_in a.hashes.now a.heights.now in
    let w = window_of a.words.now in
    let p = c.none_pending in
    let o = c.listed_once in
    let k = c.asked-n.ensures ∙ sym (asks_length a.hashes.now a.heights.now) in
    list_good l w (sym p.ensures ∙ c.if-not-none_pending.false) (sym o.ensures ∙ c.if-not-listed_once.false)
    c.pending_count-count.result c.asked-n.result c.pending_count-count.ensures.0 k c.pending_count-count.ensures.1 (omega (arith, c.if-n-count.false))

-- `request_calls::request_in_order` meets its contract. Assumes nothing.
use mathlib.Core.Path.{sym}
use Prim.Native.Nat.{◌+◌}
use native.Mathlib.Omega.{arith}
use Rattle.model.specs.Calls.{asks_in}
use Rattle.model.specs.Layout.{window_of}
use Rattle.laws.specs.Kept.{requestable_is}
use Rattle.requests.specs.Asks.{asks_within}
use Rattle.request_order.specs.Rows.{ordered_good}
use Rattle.request_calls.proofs.request_in_order.Goals as goal

pub find_order-requires : goal.find_order-requires
find_order-requires c =
    let s = c in
    let a = s.args in
    (s.requires.0.0, s.requires.1.0, s.requires.1.1.1, omega (arith, s.requires.1.1.0, (asks_within a.hashes.now a.heights.now).0))

pub mark_in_order-requires : goal.mark_in_order-requires
mark_in_order-requires c =
    let s = c in
    let a = s.args in
    let o = c.find_order.ensures c.if-find_order.true in
    let good = ordered_good (window_of a.words.now) a.hashes.now a.heights.now (a.m + a.n) _ (omega (arith, s.requires.1.0, s.requires.1.1.0)) s.requires.1.1.1 o in
    ((s.requires.0.0, (s.requires.0.1.0, (requestable_is (asks_in a.hashes.now a.heights.now) (window_of a.words.now) good, s.requires.0.1.1))), (s.requires.1.0, (s.requires.1.1.0, o)))

pub returns-then-find_order : goal.returns-then-find_order
returns-then-find_order c =
    let s = c in
    let a = s.args in
    let o = c.find_order.ensures c.if-find_order.true in (
      sym (ordered_good (window_of a.words.now) a.hashes.now a.heights.now (a.m + a.n) _ (omega (arith, s.requires.1.0, s.requires.1.1.0)) s.requires.1.1.1 o),
      c.mark_in_order.ensures,
    )

pub request_each-requires : goal.request_each-requires
request_each-requires c = c.requires.0

pub returns : goal.returns
returns c = c.request_each.ensures

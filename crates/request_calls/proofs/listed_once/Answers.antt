-- `request_calls::listed_once` meets its contract. Assumes nothing.
use mathlib.Core.Path.{refl}
use Prim.Native.Nat.{◌+◌}
use native.Mathlib.Omega.{arith}
use lib.ListN.{drop}
use Rattle.model.specs.Calls.{asks_in}
use Rattle.model.specs.declared.Hash.{Hash}
use Rattle.request_calls.specs.Listed.{listed, seen, once_not, once_more, once_all}
use Rattle.request_calls.proofs.Asked.{AskAt, ask_there, ask_none}
use Rattle.request_calls.proofs.listed_once.Goals.{In-loop-i}
use Rattle.request_calls.proofs.listed_once.Goals as goal

pub loop-i-init : goal.loop-i-init
loop-i-init c = refl

-- in a turn an ask is at i
turn : (c : In-loop-i) → AskAt c.args.hashes.now c.args.heights.now c.loop-i.i
turn c = ask_there _ _ _ _ c.asked-n.ensures c.loop-i-test.true

pub overflow_mul-i : goal.overflow_mul-i
overflow_mul-i c = omega (arith, (turn (goal.at.overflow_mul-i c).In-loop-i).1, c.well_formed)

pub hash_in-h-requires : goal.hash_in-h-requires
hash_in-h-requires c = (turn (goal.at.hash_in-h-requires c).In-loop-i).1

pub overflow_add-i : goal.overflow_add-i
overflow_add-i c = omega (arith, c.loop-i-test.true)

pub returns-then-listed_from : goal.returns-then-listed_from
returns-then-listed_from c =
    let t = c in
    let a = t.args in
    once_not a.hashes.now a.heights.now _ t.loop-i.invariant (turn (goal.at.returns-then-listed_from c).In-loop-i).0
    (seen (λ (x : Hash). listed x (drop (t.loop-i.i + 1) (asks_in a.hashes.now a.heights.now))) _ _ _ _ c.hash_in-h.ensures c.listed_from.ensures c.if-listed_from.true)

pub loop-i-preserved : goal.loop-i-preserved
loop-i-preserved c =
    let t = c in
    let a = t.args in
    once_more a.hashes.now a.heights.now _ t.loop-i.invariant (turn (goal.at.loop-i-preserved c).In-loop-i).0
    (seen (λ (x : Hash). listed x (drop (t.loop-i.i + 1) (asks_in a.hashes.now a.heights.now))) _ _ _ _ c.hash_in-h.ensures c.listed_from.ensures c.if-listed_from.false)

pub returns : goal.returns
returns c =
    let a = c.args in
    once_all a.hashes.now a.heights.now _ c.loop-i.invariant (ask_none _ _ _ _ c.asked-n.ensures c.loop-i-test.false)

-- `request_calls::listed_from` meets its contract. Assumes nothing.
use mathlib.Core.Path.{refl}
use native.Mathlib.Omega.{arith}
use Rattle.model.specs.Hash.{same}
use Rattle.model.specs.declared.Hash.{Hash}
use Rattle.request_calls.specs.Listed.{seen, listed_here, listed_later, listed_nowhere}
use Rattle.request_calls.proofs.Asked.{AskAt, ask_there, ask_none}
use Rattle.request_calls.proofs.listed_from.Goals.{In-loop-i}
use Rattle.request_calls.proofs.listed_from.Goals as goal

pub loop-i-init : goal.loop-i-init
loop-i-init c = refl

-- in a turn an ask is at i
turn : (c : In-loop-i) → AskAt c.args.hashes.now c.args.heights.now c.loop-i.i
turn c = ask_there _ _ _ _ c.asked-n.ensures c.loop-i-test.true

pub overflow_mul-i : goal.overflow_mul-i
overflow_mul-i c = omega (arith, (turn (goal.at.overflow_mul-i c).In-loop-i).1, c.well_formed)

pub hash_in-g-requires : goal.hash_in-g-requires
hash_in-g-requires c = (turn (goal.at.hash_in-g-requires c).In-loop-i).1

pub returns-then-equal : goal.returns-then-equal
returns-then-equal c =
    let t = c in
    let a = t.args in
    listed_here a.hashes.now a.heights.now a.h _ _ t.loop-i.invariant (turn (goal.at.returns-then-equal c).In-loop-i).0
    (seen (λ (x : Hash). same x a.h) _ _ _ _ c.hash_in-g.ensures c.equal.ensures c.if-equal.true)

pub loop-i-preserved : goal.loop-i-preserved
loop-i-preserved c =
    let t = c in
    let a = t.args in
    listed_later a.hashes.now a.heights.now a.h _ _ t.loop-i.invariant (turn (goal.at.loop-i-preserved c).In-loop-i).0
    (seen (λ (x : Hash). same x a.h) _ _ _ _ c.hash_in-g.ensures c.equal.ensures c.if-equal.false)

pub returns : goal.returns
returns c =
    let a = c.args in
    listed_nowhere a.hashes.now a.heights.now a.h _ _ c.loop-i.invariant (ask_none _ _ _ _ c.asked-n.ensures c.loop-i-test.false)

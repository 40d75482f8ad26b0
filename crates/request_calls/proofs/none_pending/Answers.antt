-- `request_calls::none_pending` meets its contract. Assumes nothing.
use mathlib.Core.Path.{refl}
use native.Mathlib.Omega.{arith}
use Rattle.model.specs.Layout.{window_of}
use Rattle.model.specs.Records.{found, is_there}
use Rattle.model.specs.declared.Hash.{Hash}
use Rattle.request_calls.specs.Listed.{seen, pending_one, pending_not, pending_none}
use Rattle.request_calls.proofs.Asked.{AskAt, ask_there, ask_none}
use Rattle.request_calls.proofs.none_pending.Goals.{In-loop-i}
use Rattle.request_calls.proofs.none_pending.Goals as goal

pub loop-i-init : goal.loop-i-init
loop-i-init c = refl

-- in a turn an ask is at i
turn : (c : In-loop-i) → AskAt c.args.hashes.now c.args.heights.now c.loop-i.i
turn c = ask_there _ _ _ _ c.asked-n.ensures c.loop-i-test.true

pub overflow_mul-i : goal.overflow_mul-i
overflow_mul-i c = omega (arith, (turn (goal.at.overflow_mul-i c).In-loop-i).1, c.well_formed)

pub hash_in-h-requires : goal.hash_in-h-requires
hash_in-h-requires c = (turn (goal.at.hash_in-h-requires c).In-loop-i).1

pub contains_pending-requires : goal.contains_pending-requires
contains_pending-requires c = c.requires

pub returns-then-contains_pending : goal.returns-then-contains_pending
returns-then-contains_pending c =
    let t = c in
    let a = t.args in
    pending_one a.hashes.now a.heights.now (window_of a.words.now).queue.pending _ t.loop-i.invariant (turn (goal.at.returns-then-contains_pending c).In-loop-i).0
    (seen (λ (x : Hash). is_there (found x (window_of a.words.now).queue.pending)) _ _ _ _ c.hash_in-h.ensures c.contains_pending.ensures c.if-contains_pending.true)

pub loop-i-preserved : goal.loop-i-preserved
loop-i-preserved c =
    let t = c in
    let a = t.args in
    pending_not a.hashes.now a.heights.now (window_of a.words.now).queue.pending _ t.loop-i.invariant (turn (goal.at.loop-i-preserved c).In-loop-i).0
    (seen (λ (x : Hash). is_there (found x (window_of a.words.now).queue.pending)) _ _ _ _ c.hash_in-h.ensures c.contains_pending.ensures c.if-contains_pending.false)

pub returns : goal.returns
returns c =
    let a = c.args in
    pending_none a.hashes.now a.heights.now (window_of a.words.now).queue.pending _ c.loop-i.invariant (ask_none _ _ _ _ c.asked-n.ensures c.loop-i-test.false)

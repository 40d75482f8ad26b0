-- `plan_scan::scan_chain` meets its contract: at the loop's head the heights below are looked at. Assumes nothing.
use Prim.Native.Nat.{◌+◌}
use native.Mathlib.Omega.{arith}
use Rattle.model.specs.Layout.{window_of}
use Rattle.plan_scan.specs.Turns.{Turning, turning_start, turning_step, turning_full, turning_end}
use Rattle.plan_scan.proofs.scan_chain.Goals.{After-next_past-next}
use Rattle.plan_scan.proofs.scan_chain.Goals as goal

pub loop-height-init : goal.loop-height-init
loop-height-init c =
    turning_start _ _ _ _ _ _ _ _ _ _ _ _ c.requires.1

pub returns-then-n-full : goal.returns-then-n-full
returns-then-n-full c =
    let v = c.loop-height in
    turning_full _ _ _ _ _ _ _ _ _ _ _ _ c.requires.1 _ _ _ _ _ _ _ v.invariant c.if-n-full.true

-- one more height is looked at
turned : (c : After-next_past-next)
    → Turning (window_of c.args.words.now).queue.pending c.args.chain.now c.args.staged.hashes.now c.args.refused.hashes.now c.args.hashes.now c.args.heights.now c.args.index.now c.args.from c.args.last c.args.count c.args.full c.args.frontier (c.loop-height.height + 1) c.count_after-n.result c.first_after-first.result c.next_past-next.result c.take_at.new.hashes c.take_at.new.heights c.take_at.new.index
turned c =
    let v = c.loop-height in
    let t = c.take_at in
    turning_step _ _ _ _ _ _ _ _ _ _ _ _ c.requires.1 _ _ _ _ _ _ _ v.invariant (omega (arith, c.loop-height-test.true)) c.if-n-full.false _ c.hash_in-h.ensures _ c.look_at-k.ensures
    t.new.hashes t.new.heights t.new.index t.ensures.0 t.ensures.1.0 t.ensures.1.1 t.auto.hashes t.auto.heights t.auto.index _ _ _ c.count_after-n.ensures c.first_after-first.ensures c.next_past-next.ensures

pub loop-height-preserved : goal.loop-height-preserved
loop-height-preserved c = turned (goal.at.loop-height-preserved c).After-next_past-next

pub returns-else-n-full : goal.returns-else-n-full
returns-else-n-full c =
    turning_end _ _ _ _ _ _ _ _ _ _ _ _ c.requires.1 _ _ _ _ _ _ _
    (turned (goal.at.returns-else-n-full c).After-next_past-next) (omega arith)

pub returns : goal.returns
returns c =
    let v = c.loop-height in
    turning_end _ _ _ _ _ _ _ _ _ _ _ _ c.requires.1 _ _ _ _ _ _ _ v.invariant (omega (arith, c.loop-height-test.false))

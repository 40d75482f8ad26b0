-- `request_many::fill` meets its contract: at the loop's head the rows from j on are written. Assumes nothing.
use native.Mathlib.Omega.{arith}
use Rattle.request_many.specs.Fill.{filled_start, filled_turn}
use Rattle.request_many.proofs.fill.Goals as goal

pub loop-j-init : goal.loop-j-init
loop-j-init c =
    let s = c in
    let a = s.args in
    filled_start a.words.now a.hashes.now a.heights.now a.order.now a.m a.total a.owner a.clock a.mean s.requires

pub loop-j-preserved : goal.loop-j-preserved
loop-j-preserved c =
    let s = c in
    let a = s.args in
    let l = c.loop-j in
    let p = c.put_row in
    let r = c.row_entry-e in
    filled_turn a.words.now a.hashes.now a.heights.now a.order.now a.m a.total a.owner a.clock a.mean s.requires l.j l.words p.new.words r.result
    (omega (arith, c.loop-j-test.true)) l.invariant r.ensures p.ensures (omega arith)

-- `getdata::reading::all_blocks` meets its contract: at the loop's head i entries are looked at. Assumes nothing.
use mathlib.Core.Path.{sym, ◌∙◌}
use Prim.Native.Nat.{◌*◌}
use native.Mathlib.Omega.{arith}
use Rattle.getdata.proofs.Reader.{rest_of, blocks_start, blocks_on, blocks_off, blocks_end}
use Rattle.getdata.proofs.reading.all_blocks.Goals as goal

pub loop-i-init : goal.loop-i-init
loop-i-init c = blocks_start c.args.entries.now c.args.n

pub returns-then-not-is_block : goal.returns-then-not-is_block
returns-then-not-is_block c =
    let a = c.args in
    let v = c.loop-i in
    let b = c.is_block in
    sym (v.invariant ∙ blocks_off a.entries.now v.i a.n b.result _ (rest_of (36 * v.i) a.entries.now) b.ensures (omega arith) (c.if-not-is_block.true))

pub loop-i-preserved : goal.loop-i-preserved
loop-i-preserved c =
    let a = c.args in
    let v = c.loop-i in
    let b = c.is_block in
    v.invariant ∙ blocks_on a.entries.now v.i a.n b.result _ (rest_of (36 * v.i) a.entries.now) b.ensures (omega arith) (c.if-not-is_block.false)

pub returns : goal.returns
returns c =
    let a = c.args in
    let v = c.loop-i in
    sym (v.invariant ∙ blocks_end a.entries.now v.i a.n (omega arith))

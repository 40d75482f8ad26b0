-- `getdata::writing::put_little_endian` meets its contract: at the loop's head the bytes before are written, and the others are those of the rest. Assumes
-- nothing.
use mathlib.Core.Path.{sym, ◌∙◌}
use native.Mathlib.Omega.{arith}
use lib.ListN.{length}
use Rattle.getdata.proofs.Written.{store_start, store_next, store_end}
use Rattle.getdata.proofs.writing.put_little_endian.Goals as goal

pub loop-byte-init : goal.loop-byte-init
loop-byte-init c = store_start (length c.args.out.now) c.args.number

pub loop-byte-preserved : goal.loop-byte-preserved
loop-byte-preserved c =
    let v = c.loop-byte in
    let n = length c.args.out.now in
    v.invariant ∙ store_next n v.byte-index v.rest v.out (omega arith) (omega arith)

pub returns : goal.returns
returns c =
    let v = c.loop-byte in
    let n = length c.args.out.now in
    sym (v.invariant ∙ store_end n v.byte-index v.rest v.out (omega arith) (omega arith))

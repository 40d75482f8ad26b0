-- `getdata::reading::read_entries` meets its contract: at the loop's head i hashes are read. Assumes nothing.
use mathlib.Core.Path.{sym, ◌∙◌}
use Prim.Native.Nat.{◌+◌, ◌*◌, ◌-◌}
use native.Mathlib.Omega.{arith}
use Rattle.getdata.proofs.Reader.{rest_of, words_start, words_on, words_end}
use Rattle.getdata.proofs.reading.read_entries.Goals as goal

pub loop-i-init : goal.loop-i-init
loop-i-init c = words_start c.args.entries.now c.args.n

pub loop-i-preserved : goal.loop-i-preserved
loop-i-preserved c =
    let a = c.args in
    let v = c.loop-i in
    let r = c.read_hash in
    v.invariant
    ∙ words_on a.entries.now v.hashes r.new.hash _ v.i a.n (4 * v.i + 4 - 4 * v.i) (omega arith) (omega arith) (omega arith)
    (rest_of (36 * v.i) a.entries.now) r.ensures

pub returns : goal.returns
returns c =
    let a = c.args in
    let v = c.loop-i in
    sym (v.invariant ∙ words_end a.entries.now v.hashes v.i a.n (omega arith) (omega arith))

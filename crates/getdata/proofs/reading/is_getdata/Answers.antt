-- `getdata::reading::is_getdata` meets its contract. Assumes nothing.
use mathlib.Core.Path.{◌≡◌}
use Prim.Native.Nat.{◌+◌, ◌*◌}
use native.Mathlib.Omega.{arith}
use lib.ListN.{length}
use Rattle.getdata.proofs.Reader.{told_true, told_false, rest_of, not_shortest, above_256, not_long, long}
use Rattle.getdata.proofs.reading.is_getdata.Goals as goal

pub returns-then-not-is_shortest : goal.returns-then-not-is_shortest
returns-then-not-is_shortest c = not_shortest c.args.payload.now (told_false c.is_shortest.ensures c.if-not-is_shortest.true)

pub returns-then-n-gt-MAX_GETDATA : goal.returns-then-n-gt-MAX_GETDATA
returns-then-n-gt-MAX_GETDATA c =
    let n = c.count_of-n in
    let s = told_true c.is_shortest.ensures c.if-not-is_shortest.false in
    above_256 c.args.payload.now n.result s n.ensures.0 (omega (arith, c.if-n-gt-MAX_GETDATA.true))

pub returns-then-payload-start : goal.returns-then-payload-start
returns-then-payload-start c =
    let n = c.count_of-n in
    let w = c.count_width-start in
    let s = told_true c.is_shortest.ensures c.if-not-is_shortest.false in
    let p = c.args.payload.now in
    not_long p n.result s n.ensures.0 w.result w.ensures.0
    (λ (e : length p ≡ w.result + n.result * 36). omega (arith, e, c.if-payload-start.true))

pub returns : goal.returns
returns c =
    let p = c.args.payload.now in
    let n = c.count_of-n in
    let w = c.count_width-start in
    let s = told_true c.is_shortest.ensures c.if-not-is_shortest.false in
    long p n.result s n.ensures.0 w.result w.ensures.0
    c.all_blocks.result _ (omega (arith, c.if-n-gt-MAX_GETDATA.false)) (omega (arith, c.if-payload-start.false)) (rest_of w.result p) c.all_blocks.ensures

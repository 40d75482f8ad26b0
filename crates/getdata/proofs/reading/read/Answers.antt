-- `getdata::reading::read` meets its contract. Assumes nothing.
use mathlib.Core.Path.{refl, sym}
use Prim.Native.Nat.{◌*◌}
use native.Mathlib.Omega.{arith}
use lib.ListN.{length-take, length-drop}
use lib.Seq.{length-take-le}
use Rattle.getdata.specs.Bytes.{accepted_parts}
use Rattle.getdata.proofs.Reader.{rest_of, told_true, told_false, answer_11, left_11, answer_10, left_10, answer_0, left_0}
use Rattle.getdata.proofs.reading.read.Goals as goal

pub returns-then-not-is_getdata : goal.returns-then-not-is_getdata
returns-then-not-is_getdata c =
    let a = c.args in
    let h = told_false c.is_getdata.ensures c.if-not-is_getdata.true in
    (answer_11 a.payload.now a.hashes.now h, left_11 a.payload.now a.hashes.now h)

pub returns-then-hashes-end : goal.returns-then-hashes-end
returns-then-hashes-end c =
    let a = c.args in
    let n = c.count_of-n in
    let h = told_true c.is_getdata.ensures c.if-not-is_getdata.false in (
      answer_10 a.payload.now a.hashes.now n.result h n.ensures.0 (omega (arith, c.if-hashes-end.true)),
      left_10 a.payload.now a.hashes.now n.result h n.ensures.0 (omega (arith, c.if-hashes-end.true)),
    )

pub slice_bounds-read_entries-count : goal.slice_bounds-read_entries-count
slice_bounds-read_entries-count c =
    let p = c.args.payload.now in
    let h = told_true c.is_getdata.ensures c.if-not-is_getdata.false in
    omega (arith, (accepted_parts p h).long, c.count_width-start.ensures.0)

pub slice_bounds-read_entries-start : goal.slice_bounds-read_entries-start
slice_bounds-read_entries-start c =
    let p = c.args.payload.now in
    let h = told_true c.is_getdata.ensures c.if-not-is_getdata.false in
    omega (arith, (accepted_parts p h).long, c.count_width-start.ensures.0)

pub slice_bounds-read_entries-end-3 : goal.slice_bounds-read_entries-end-3
slice_bounds-read_entries-end-3 c =
    let n = c.count_of-n in
    let a = c.args in
    sym (length-take-le (n.result * 4) a.hashes.now (omega (arith, c.if-hashes-end.false)))

pub read_entries-requires : goal.read_entries-requires
read_entries-requires c =
    let a = c.args in
    let p = a.payload.now in
    let n = c.count_of-n in
    let w = c.count_width-start in
    let h = told_true c.is_getdata.ensures c.if-not-is_getdata.false in (
      simp (length-take, length-drop) (omega (arith, (accepted_parts p h).long, n.ensures.0, w.ensures.0)),
      length-take-le (n.result * 4) a.hashes.now (omega (arith, c.if-hashes-end.false)),
    )

pub returns : goal.returns
returns c =
    let a = c.args in
    let p = a.payload.now in
    let tested = c in
    let h = told_true tested.is_getdata.ensures tested.if-not-is_getdata.false in
    let n = c.count_of-n in
    let fits = c.if-hashes-end.false in
    let w = c.count_width-start in
    let r = c.read_entries in (
      answer_0 p a.hashes.now n.result h n.ensures.0 (omega (arith, fits)),
      left_0 p a.hashes.now n.result h n.ensures.0 (omega (arith, fits)) w.result (n.result * 4) _ r.new.hashes
          w.ensures.0 (rest_of w.result p) refl r.ensures,
    )

-- `getdata::writing::write` meets its contract. Assumes nothing.
use mathlib.Core.Path.{refl, sym, ◌∙◌}
use mathlib.Core.List.{◌++◌}
use Prim.Native.Nat.{◌+◌, ◌-◌, ◌*◌, ◌/◌}
use native.Mathlib.Omega.{arith}
use lib.ListN.{length, drop}
use lib.Seq.{length-take-le}
use Rattle.model.specs.Hash.{hashes_in}
use Rattle.getdata.specs.Bytes.{length_count}
use Rattle.getdata.proofs.Written.{hash_count, length_payload, write_too_many, write_too_few, write_whole}
use Rattle.getdata.proofs.writing.write.Goals as goal

pub returns-then-n-gt-MAX_GETDATA : goal.returns-then-n-gt-MAX_GETDATA
returns-then-n-gt-MAX_GETDATA c =
    let g = c in
    let hs = g.args.hashes.now in
    write_too_many (hashes_in hs) g.args.out.now (omega (arith, hash_count hs, c.if-n-gt-MAX_GETDATA.true))

pub overflow_mul-end : goal.overflow_mul-end
overflow_mul-end c = omega (arith, c.if-n-gt-MAX_GETDATA.false)

pub overflow_add-end : goal.overflow_add-end
overflow_add-end c =
    let n = length c.args.hashes.now / 4 in
    omega (arith, c.if-n-gt-MAX_GETDATA.false, c.compact_size_width-start.ensures, (length_count n).1)

pub returns-then-out-end : goal.returns-then-out-end
returns-then-out-end c =
    let call = c in
    let g = call in
    let hs = g.args.hashes.now in
    let many = hash_count hs in
    write_too_few (hashes_in hs) g.args.out.now (omega (arith, many, call.if-n-gt-MAX_GETDATA.false))
    (omega (arith, length_payload (hashes_in hs) (length hs / 4) call.compact_size_width-start.result many call.compact_size_width-start.ensures, c.if-out-end.true))

pub slice_bounds-put_count-end : goal.slice_bounds-put_count-end
slice_bounds-put_count-end c = omega (arith, c.if-out-end.false)

pub slice_bounds-put_count-end-2 : goal.slice_bounds-put_count-end-2
slice_bounds-put_count-end-2 c =
    let g = c in
    sym (length-take-le c.compact_size_width-start.result g.args.out.now (omega (arith, c.if-out-end.false)))

pub put_count-requires : goal.put_count-requires
put_count-requires c =
    let g = c in
    let width = c.compact_size_width-start in
    length-take-le width.result g.args.out.now (omega (arith, c.if-out-end.false)) ∙ width.ensures

pub put_entries-requires : goal.put_entries-requires
put_entries-requires c =
    let hs = c.args.hashes.now in
    omega (arith, c.put_entries-arg-1.given, hash_count hs)

pub returns : goal.returns
returns c =
    let entries = c in
    let count = entries in
    let width = count in
    let g = width in
    let hs = g.args.hashes.now in
    let start = width.compact_size_width-start.result in
    let n = length hs / 4 in
    write_whole (hashes_in hs) g.args.out.now count.put_count.new.out entries.put_entries.new.out
    (count.put_count.new.out ++ drop start g.args.out.now) n start (start + 36 * n) (start + 36 * n - start) (hash_count hs)
    (omega (arith, width.if-n-gt-MAX_GETDATA.false)) width.compact_size_width-start.ensures refl (omega (arith, count.if-out-end.false)) refl
    count.put_count.ensures entries.put_entries.ensures refl

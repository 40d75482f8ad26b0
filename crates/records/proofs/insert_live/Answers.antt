-- `records::insert_live` meets its contract. Assumes nothing.
use Prim.Native.Nat.{◌+◌, ◌-◌}
use native.Mathlib.Omega.{arith}
use Rattle.records.proofs.Live.{insert_part}
use Rattle.records.proofs.insert_live.Goals as goal

pub overflow_add-e : goal.overflow_add-e
overflow_add-e c = omega arith

pub slice_bounds-insert_at-count : goal.slice_bounds-insert_at-count
slice_bounds-insert_at-count c = omega arith

pub slice_bounds-insert_at-start : goal.slice_bounds-insert_at-start
slice_bounds-insert_at-start c = omega arith

pub slice_bounds-insert_at-end : goal.slice_bounds-insert_at-end
slice_bounds-insert_at-end c = omega arith

pub returns : goal.returns
returns c =
    let at_call = c in
    let s = at_call in
    insert_part s.args.col.now s.args.live s.requires.0 (omega arith) s.requires.3 s.args.at s.args.value (s.args.live + 1 - 0) at_call.insert_at.new.col s.requires.2 s.requires.1
    (omega arith) at_call.insert_at.ensures

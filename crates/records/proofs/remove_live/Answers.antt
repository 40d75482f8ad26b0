-- `records::remove_live` meets its contract. Assumes nothing.
use Prim.Native.Nat.{◌-◌}
use native.Mathlib.Omega.{arith}
use Rattle.records.proofs.Live.{remove_part}
use Rattle.records.proofs.remove_live.Goals as goal

pub slice_bounds-remove_at-count : goal.slice_bounds-remove_at-count
slice_bounds-remove_at-count c = omega arith

pub slice_bounds-remove_at-start : goal.slice_bounds-remove_at-start
slice_bounds-remove_at-start c = omega arith

pub slice_bounds-remove_at-end : goal.slice_bounds-remove_at-end
slice_bounds-remove_at-end c = omega arith

pub returns : goal.returns
returns c =
    let at_call = c in
    let s = at_call in
    remove_part s.args.col.now s.args.live s.requires.0 s.requires.1 s.requires.3 s.args.at (s.args.live - 0) at_call.remove_at.new.col s.requires.2 (omega arith)
    at_call.remove_at.ensures

-- `probe_confirm::row_in` meets its contract. Assumes nothing.
use mathlib.Core.Path.{refl}
use native.Mathlib.Omega.{arith}
use Rattle.probe_confirm.proofs.row_in.Goals as goal

pub offset_bounds-given-k : goal.offset_bounds-given-k
offset_bounds-given-k c = omega (arith, c.well_formed)

pub bounds-given-k : goal.bounds-given-k
bounds-given-k c = omega (arith, c.requires)

pub overflow_add-result : goal.overflow_add-result
overflow_add-result c = omega (arith, c.requires, c.well_formed)

pub offset_bounds-given-k-2 : goal.offset_bounds-given-k-2
offset_bounds-given-k-2 c = omega (arith, c.requires, c.well_formed)

pub bounds-given-k-2 : goal.bounds-given-k-2
bounds-given-k-2 c = omega (arith, c.requires)

pub overflow_add-result-2 : goal.overflow_add-result-2
overflow_add-result-2 c = omega (arith, c.requires, c.well_formed)

pub offset_bounds-given-k-3 : goal.offset_bounds-given-k-3
offset_bounds-given-k-3 c = omega (arith, c.requires, c.well_formed)

pub bounds-given-k-3 : goal.bounds-given-k-3
bounds-given-k-3 c = omega (arith, c.requires)

pub overflow_add-result-3 : goal.overflow_add-result-3
overflow_add-result-3 c = omega (arith, c.requires, c.well_formed)

pub offset_bounds-given-k-4 : goal.offset_bounds-given-k-4
offset_bounds-given-k-4 c = omega (arith, c.requires, c.well_formed)

pub bounds-given-k-4 : goal.bounds-given-k-4
bounds-given-k-4 c = omega (arith, c.requires)

pub returns : goal.returns
returns c = refl

-- `probe_confirm::given_hashes` meets its contract. Assumes nothing.
use mathlib.Core.Path.{◌≡◌, ap, ◌∙◌}
use Prim.Native.Nat.{◌-◌}
use native.Mathlib.Omega.{arith}
use Rattle.model.specs.Hash.{hashes_in}
use Rattle.plans.specs.Rows.{row_hash}
use Rattle.probe_hashes.specs.Rows.{filled_start, filled_step, filled_done}
use Rattle.probe_confirm.specs.Confirms.{given_count, given_row}
use Rattle.probe_confirm.proofs.given_hashes.Goals as goal

pub loop-i-init : goal.loop-i-init
loop-i-init c = filled_start (hashes_in c.args.given.now)

pub overflow_mul-i : goal.overflow_mul-i
overflow_mul-i c = omega (arith, c.loop-i-test.true, c.requires.1)

pub row_in-row-requires : goal.row_in-row-requires
row_in-row-requires c = omega (arith, c.loop-i-test.true, c.requires.0)

pub offset_bounds-rows-i : goal.offset_bounds-rows-i
offset_bounds-rows-i c = omega (arith, c.loop-i-test.true, c.requires.1)

pub bounds-rows-i : goal.bounds-rows-i
bounds-rows-i c = omega (arith, c.loop-i-test.true, c.requires.1)

pub loop-i-preserved : goal.loop-i-preserved
loop-i-preserved c =
    let l = c.loop-i in
    let given = c.args.given.now in
    filled_step l.i (hashes_in given) l.rows c.row_in-row.result (omega (arith, c.loop-i-test.true, c.requires.1))
    (ap row_hash c.row_in-row.ensures ∙ given_row given l.i (omega (arith, c.loop-i-test.true, c.requires.0))) l.invariant

pub returns : goal.returns
returns c =
    let l = c.loop-i in
    let given = c.args.given.now in
    let n = c.args.n in
    let e : l.i ≡ n = omega (arith, c.loop-i-test.false) in
    filled_done n (hashes_in given) l.rows (given_count n given c.requires.0) c.requires.1 (rw e at l.invariant)

-- `probe_hashes::plan_hashes` meets its contract. Assumes nothing.
use mathlib.Core.Path.{◌≡◌, sym, ap, ◌∙◌}
use Prim.Native.Nat.{◌<◌}
use native.Mathlib.Omega.{arith}
use lib.ListN.{take}
use Rattle.model.specs.Layout.{window_of, planned_words}
use Rattle.plans.specs.Rows.{row_hash}
use Rattle.prefix_probe.specs.Walks.{hashes_at}
use Rattle.probe_plan.specs.Plans.{count_planned}
use Rattle.probe_hashes.specs.Rows.{filled_start, filled_step, filled_done, how_few, plan_list, plan_row}
use Rattle.probe_hashes.proofs.plan_hashes.Goals.{In-loop-i}
use Rattle.probe_hashes.proofs.plan_hashes.Goals as goal

pub loop-i-init : goal.loop-i-init
loop-i-init c = filled_start _

within : (c : In-loop-i) → c.loop-i.i < 8
within c =
    let s = c in
    omega (arith, c.loop-i-test.true, how_few s.args.p (window_of s.args.words.now) s.requires.1 c.how_many-n.result c.how_many-n.ensures, s.requires.1.few)

pub offset_bounds-places-i : goal.offset_bounds-places-i
offset_bounds-places-i c = omega (arith, c.loop-i-test.true, how_few c.args.p (window_of c.args.words.now) c.requires.1 c.how_many-n.result c.how_many-n.ensures, c.requires.1.few)

pub bounds-places-i : goal.bounds-places-i
bounds-places-i c = omega (arith, c.loop-i-test.true, how_few c.args.p (window_of c.args.words.now) c.requires.1 c.how_many-n.result c.how_many-n.ensures, c.requires.1.few)

pub row_at-row-requires : goal.row_at-row-requires
row_at-row-requires c =
    let s = c in
    (s.requires.0, s.requires.1.within c.loop-i.i (omega (arith, c.loop-i-test.true, how_few s.args.p (window_of s.args.words.now) s.requires.1 c.how_many-n.result c.how_many-n.ensures)))

pub offset_bounds-rows-i : goal.offset_bounds-rows-i
offset_bounds-rows-i c = omega (arith, within (goal.at.offset_bounds-rows-i c).In-loop-i)

pub bounds-rows-i : goal.bounds-rows-i
bounds-rows-i c = within (goal.at.bounds-rows-i c).In-loop-i

pub loop-i-preserved : goal.loop-i-preserved
loop-i-preserved c =
    let l = c.loop-i in
    let s = c in
    let n = c.how_many-n.result in
    let ps = s.args.p.places in
    let es = (window_of s.args.words.now).queue.pending in
    filled_step l.i (hashes_at es (take n ps)) l.rows c.row_at-row.result (within (goal.at.loop-i-preserved c).In-loop-i)
    (ap row_hash c.row_at-row.ensures ∙ plan_row es ps n l.i c.loop-i-test.true (omega (arith, how_few s.args.p (window_of s.args.words.now) s.requires.1 n c.how_many-n.ensures, s.requires.1.few, s.requires.1.room))) l.invariant

pub returns : goal.returns
returns c =
    let l = c.loop-i in
    let s = c in
    let n = c.how_many-n.result in
    let w = window_of s.args.words.now in
    let ps = s.args.p.places in
    let least = how_few s.args.p w s.requires.1 n c.how_many-n.ensures in
    let e : l.i ≡ n = omega (arith, c.loop-i-test.false) in
    filled_done n (hashes_at w.queue.pending (take n ps)) l.rows (count_planned w.queue.pending n ps (omega (arith, least, s.requires.1.few, s.requires.1.room))) (omega (arith, least, s.requires.1.few)) (rw e at l.invariant)
    ∙ ap planned_words (sym (plan_list s.args.p w s.requires.1 n c.how_many-n.ensures))

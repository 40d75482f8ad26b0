-- `marks::lost_marks` meets its contract: at the loop's head the first i marks are made. Assumes nothing.
use mathlib.Core.Path.{◌≡◌, sym, ap, ◌∙◌}
use mathlib.Core.Bool.{cond, not}
use mathlib.Core.List.{List}
use Prim.Native.Nat.{ℕ, ◌+◌, ◌<◌}
use lib.ListN.{length, get_or}
use lib.Dec.{eqb}
use Rattle.model.specs.Layout.{blank, window_of}
use Rattle.model.specs.LettingGo.{lost_reason, flagged}
use Rattle.laws.specs.Pending.{pending_few, owner_at, seat_at}
use native.Mathlib.Omega.{arith}
use Rattle.marks.proofs.Marked.{one_more}
use Rattle.marks.proofs.lost_marks.Goals as goal

-- the mark of the record at i
marked : (ws fs : List ℕ) (i reason v : ℕ) → i < length (window_of ws).queue.pending → v ≡ cond (not (eqb (get_or fs (get_or ws (i + 1024) 0) 0) 0)) 0 reason
    → v ≡ lost_reason (flagged fs) reason (get_or (window_of ws).queue.pending i blank)
unfolding lost_reason flagged
marked ws fs i reason v h is = is ∙ ap (λ (n : ℕ). cond (not (eqb (get_or fs n 0) 0)) 0 reason) (sym (owner_at ws i h))

pub offset_bounds-flags-owner : goal.offset_bounds-flags-owner
offset_bounds-flags-owner c = omega (arith, seat_at c.args.words.now c.loop-i.i (omega arith) c.requires.1)

pub bounds-flags-owner : goal.bounds-flags-owner
bounds-flags-owner c = omega (arith, seat_at c.args.words.now c.loop-i.i (omega arith) c.requires.1)

pub bounds-marks-i : goal.bounds-marks-i
bounds-marks-i c = omega (arith, pending_few c.args.words.now)

pub loop-i-preserved : goal.loop-i-preserved
loop-i-preserved c =
    let v = c.loop-i in
    let a = c.args in
    let ws = a.words.now in
    let h : v.i < length (window_of ws).queue.pending = omega arith in
    let is = marked ws a.flags.now v.i a.reason c.lost_mark.result h c.lost_mark.ensures in
    one_more _ ws v.i c.lost_mark.result v.marks h is v.invariant

-- `marks::retire_marks` meets its contract: at the loop's head the first i marks are made. Assumes nothing.
use mathlib.Core.Path.{◌≡◌, sym, ap, ◌∙◌}
use mathlib.Core.Bool.{cond}
use mathlib.Core.List.{List}
use Prim.Native.Nat.{ℕ, ◌+◌, ◌<◌}
use lib.ListN.{length, get_or}
use lib.Dec.{ltb}
use Rattle.model.specs.Layout.{blank, window_of}
use Rattle.laws.specs.Batches.{retire_reason}
use Rattle.laws.specs.Pending.{pending_few, height_at}
use native.Mathlib.Omega.{arith}
use Rattle.marks.proofs.Marked.{one_more}
use Rattle.marks.proofs.retire_marks.Goals as goal

-- the mark of the record at i
marked : (ws : List ℕ) (i height v : ℕ) → i < length (window_of ws).queue.pending → v ≡ cond (ltb (get_or ws (i + 1536) 0) height) 5 0
    → v ≡ retire_reason height (get_or (window_of ws).queue.pending i blank)
unfolding retire_reason
marked ws i height v h is = is ∙ ap (λ (n : ℕ). cond (ltb n height) 5 0) (sym (height_at ws i h))

pub bounds-marks-i : goal.bounds-marks-i
bounds-marks-i c = omega (arith, pending_few c.args.words.now)

pub loop-i-preserved : goal.loop-i-preserved
loop-i-preserved c =
    let v = c.loop-i in
    let a = c.args in
    let ws = a.words.now in
    let h : v.i < length (window_of ws).queue.pending = omega arith in
    let is = marked ws v.i a.height c.retire_mark.result h c.retire_mark.ensures in
    one_more _ ws v.i c.retire_mark.result v.marks h is v.invariant

-- `marks::sweep_marks` meets its contract: at the loop's head the first i marks are made. Assumes nothing.
use mathlib.Core.Path.{◌≡◌, sym, ap, ◌∙◌}
use mathlib.Core.Bool.{cond, ◌&&◌}
use mathlib.Core.List.{List}
use Prim.Native.Nat.{ℕ, suc, ◌+◌, ◌-◌, ◌<◌}
use lib.ListN.{length, get_or}
use lib.Dec.{ltb, leb}
use Rattle.model.specs.Layout.{blank, window_of}
use Rattle.model.specs.Time.{expired}
use Rattle.model.specs.LettingGo.{skipped, sweep_reason}
use Rattle.laws.specs.Pending.{Ranged, pending_few, owner_at, time_at, seat_at, time_le, start_word, body_word}
use native.Mathlib.Omega.{arith}
use Rattle.marks.proofs.Marked.{one_more}
use Rattle.marks.proofs.sweep_marks.Goals as goal

-- the mark of the record at i
marked : (ws : List ℕ) (i clock timeout wait v : ℕ) → i < length (window_of ws).queue.pending → Ranged (window_of ws) → wait ≡ (window_of ws).pace.wait
    → v ≡ cond (expired clock timeout (get_or ws (2304 + get_or ws (i + 1024) 0) 0)) 6
    (cond (leb wait (clock - get_or ws (i + 1280) 0) && ltb (suc (get_or ws (i + 1280) 0)) (get_or ws (2560 + get_or ws (i + 1024) 0) 0)) 7 0)
    → v ≡ sweep_reason clock timeout (window_of ws) (get_or (window_of ws).queue.pending i blank)
unfolding sweep_reason skipped
marked ws i clock timeout wait v h a q is =
    let w = window_of ws in
    let o = owner_at ws i h in
    let t = sym (time_at ws i h) in
    let s = sym (ap (λ (k : ℕ). get_or w.queue.starts k 0) o ∙ start_word ws (get_or ws (i + 1024) 0) (omega (arith, seat_at ws i h a))) in
    let b = sym (ap (λ (k : ℕ). get_or w.queue.bodies k 0) o ∙ body_word ws (get_or ws (i + 1024) 0) (omega (arith, seat_at ws i h a))) in
    is ∙ (λ j. cond (expired clock timeout (s j)) 6 (cond (leb (q j) (clock - t j) && ltb (suc (t j)) (b j)) 7 0))

pub overflow_add-start : goal.overflow_add-start
overflow_add-start c = omega (arith, seat_at c.args.words.now c.loop-i.i (omega arith) c.requires.2)

pub offset_bounds-words-owner : goal.offset_bounds-words-owner
offset_bounds-words-owner c = omega (arith, seat_at c.args.words.now c.loop-i.i (omega arith) c.requires.2)

pub bounds-words-owner : goal.bounds-words-owner
bounds-words-owner c = omega (arith, seat_at c.args.words.now c.loop-i.i (omega arith) c.requires.2)

pub overflow_add-body : goal.overflow_add-body
overflow_add-body c = omega (arith, seat_at c.args.words.now c.loop-i.i (omega arith) c.requires.2)

pub offset_bounds-words-owner-in-loop-i : goal.offset_bounds-words-owner-in-loop-i
offset_bounds-words-owner-in-loop-i c = omega (arith, seat_at c.args.words.now c.loop-i.i (omega arith) c.requires.2)

pub bounds-words-owner-in-loop-i : goal.bounds-words-owner-in-loop-i
bounds-words-owner-in-loop-i c = omega (arith, seat_at c.args.words.now c.loop-i.i (omega arith) c.requires.2)

pub sweep_mark-requires : goal.sweep_mark-requires
sweep_mark-requires c = (c.requires.3, time_le c.args.words.now c.loop-i.i (omega arith) c.requires.2)

pub bounds-marks-i : goal.bounds-marks-i
bounds-marks-i c = omega (arith, pending_few c.args.words.now)

pub loop-i-preserved : goal.loop-i-preserved
loop-i-preserved c =
    let v = c.loop-i in
    let a = c.args in
    let ws = a.words.now in
    let h : v.i < length (window_of ws).queue.pending = omega arith in
    let is = marked ws v.i a.clock a.timeout a.wait c.sweep_mark.result h c.requires.2 c.requires.1 c.sweep_mark.ensures in
    one_more _ ws v.i c.sweep_mark.result v.marks h is v.invariant

-- `seats::keep_flagged` meets its contract: at the loop's head the column has the first i words of the result, and then its own. Assumes nothing.
use mathlib.Core.Path.{◌≡◌, refl, sym, ap, ◌∙◌}
use mathlib.Core.Bool.{Bool, cond, not}
use mathlib.Core.List.{List, [], ◌∷◌}
use Prim.Native.Nat.{ℕ, zero, suc, ◌+◌, ◌-◌, ◌<◌}
use native.Mathlib.Nat.{le_of_suc-le-suc, not-suc-le-zero}
use native.Mathlib.Omega.{arith}
use native.Mathlib.Numerals.{add-one}
use lib.ListN.{length, get_or, set}
use lib.Dec.{eqb}
use Rattle.model.specs.Hash.{same}
use Rattle.model.specs.Seats.{keep_seats}
use Rattle.model.specs.LettingGo.{flagged}
use Rattle.column.proofs.Laws.{over, over_step, over_read, over_done}
use Rattle.seats.proofs.keep_flagged.Invariants.{T}
use Rattle.seats.proofs.keep_flagged.Goals as goal

length_kept : (keep : ℕ → Bool) (i : ℕ) (l : List ℕ) → length (keep_seats keep i l) ≡ length l
unfolding keep_seats
length_kept keep i [] = refl
length_kept keep i (x ∷ l) = ap suc (length_kept keep (suc i) l)

kept_at : (keep : ℕ → Bool) (i j k : ℕ) (l : List ℕ) → k ≡ i + j → j < length l → get_or (keep_seats keep i l) j 0 ≡ cond (keep k) (get_or l j 0) 0
unfolding keep_seats
kept_at keep i j k [] e h = absurd (not-suc-le-zero h)
kept_at keep i zero k (x ∷ l) e h = let same : i ≡ k = omega arith in ap (λ (n : ℕ). cond (keep n) x 0) same
kept_at keep i (suc j) k (x ∷ l) e h = kept_at keep (suc i) j k l (omega arith) (le_of_suc-le-suc h)

-- a turn
turn : (fs l col : List ℕ) (i v : ℕ) → i < length l → col ≡ over i (T fs l) l → v ≡ cond (not (eqb (get_or fs i 0) 0)) (get_or col i 0) 0 → set col i v ≡ over (suc i) (T fs l) l
unfolding flagged
turn fs l col i v h is e =
    let long : length (T fs l) ≡ length l = length_kept (flagged fs) 0 l in
    let read : get_or col i 0 ≡ get_or l i 0 = ap (λ (x : List ℕ). get_or x i 0) is ∙ over_read (T fs l) l i i 0 (omega arith) (omega arith) in
    ap (λ (x : List ℕ). set x i v) is
    ∙ over_step (T fs l) l i v 0 (omega arith) h (e ∙ ap (λ (n : ℕ). cond (not (eqb (get_or fs i 0) 0)) n 0) read ∙ sym (kept_at (flagged fs) 0 i i l (omega arith) h))

pub loop-i-preserved : goal.loop-i-preserved
loop-i-preserved c =
    let l = c.loop-i in
    let a = c.args in
    turn a.flags.now a.col.now l.col l.i c.kept_word.result (omega arith) l.invariant c.kept_word.ensures ∙ rw add-one

pub returns : goal.returns
returns c =
    let l = c.loop-i in
    let a = c.args in
    l.invariant ∙ over_done (T a.flags.now a.col.now) a.col.now l.i (omega (arith, length_kept (flagged a.flags.now) 0 a.col.now)) (omega arith)

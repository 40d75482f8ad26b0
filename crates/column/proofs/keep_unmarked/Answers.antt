-- `column::keep_unmarked` meets its contract. The invariant of its loop: the first j words of the column and what is unmarked from i on are all that
-- is kept, and the words from i on are as they were; what stands between is no one's. Assumes nothing.
use mathlib.Core.Path.{◌≡◌, refl, sym, ap, ◌∙◌}
use mathlib.Core.Logic.{◌⊎◌, inl, inr}
use mathlib.Core.Bool.{Bool, true, false, cond}
use mathlib.Core.List.{List, [], ◌∷◌, ◌++◌, append_assoc, append-nil}
use Prim.Native.Nat.{ℕ, suc, ◌+◌, ◌-◌, ◌≤◌, ◌<◌}
use native.Mathlib.Omega.{arith}
use native.Mathlib.Numerals.{add-one}
use lib.ListN.{length, get_or, set, take, drop, replicate, length-set, drop_of_length-le}
use lib.Seq.{get_or-set_other, take-set-le, take-suc-set, length-take-le}
use lib.Dec.{eqb}
use borrow.Author.Tests.{eqb-true, eqb-false}
use Rattle.column.specs.Edits.{keep_by, kept_by}
use Rattle.column.proofs.Laws.{keep_one, keep_none}
use Rattle.column.proofs.keep_unmarked.Invariants.{Inv}
use Rattle.column.proofs.keep_unmarked.Goals as goal

both : (b : Bool) → (b ≡ true) ⊎ (b ≡ false)
both true = inl refl
both false = inr refl

one_at_most : (b : Bool) → cond b 1 0 ≤ 1
one_at_most true = omega arith
one_at_most false = omega arith

-- what a turn stores at j, j ≤ i, no later turn reads
rest_after : (l ms col : List ℕ) (i j : ℕ) → i < length l → Inv l ms col i j → (k : ℕ) → suc i ≤ k → get_or (set col j (get_or col i 0)) k 0 ≡ get_or l k 0
rest_after l ms col i j h inv k le =
    get_or-set_other col j k (get_or col i 0) 0 (λ (e : k ≡ j). omega (arith, inv.ahead)) ∙ inv.rest k (omega arith)

-- a turn that keeps the word at i
keep : (l ms col : List ℕ) (i j : ℕ) → i < length l → length ms ≡ length l → get_or ms i 0 ≡ 0 → Inv l ms col i j → Inv l ms (set col j (get_or col i 0)) (suc i) (suc j)
keep l ms col i j h n m inv =
    let v = get_or col i 0 in
    let rest = keep_by (drop (suc i) ms) (drop (suc i) l) in
    record {
      ahead = omega (arith, inv.ahead);
      long = simp length-set inv.long;
      rest = rest_after l ms col i j h inv;
      is =
          ap (λ (x : List ℕ). x ++ rest) (take-suc-set col j v (omega (arith, inv.ahead, inv.long)))
          ∙ append_assoc (take j col) (v ∷ []) rest
          ∙ ap (λ (x : ℕ). take j col ++ (x ∷ rest)) (inv.rest i (omega arith))
          ∙ ap (λ (x : List ℕ). take j col ++ x) (sym (keep_one ms l i 0 (omega arith) h m))
          ∙ inv.is;
    }

-- a turn that does not: what it stored is stored over, or cleared
skip : (l ms col : List ℕ) (i j : ℕ) → i < length l → length ms ≡ length l → (get_or ms i 0 ≡ 0 → ⊥) → Inv l ms col i j → Inv l ms (set col j (get_or col i 0)) (suc i) j
skip l ms col i j h n m inv =
    let rest = keep_by (drop (suc i) ms) (drop (suc i) l) in
    record {
      ahead = omega (arith, inv.ahead);
      long = simp length-set inv.long;
      rest = rest_after l ms col i j h inv;
      is =
          ap (λ (x : List ℕ). x ++ rest) (take-set-le j col j (get_or col i 0) (omega arith))
          ∙ ap (λ (x : List ℕ). take j col ++ x) (sym (keep_none ms l i (omega arith) h m))
          ∙ inv.is;
    }

-- either, by how far the place moves on
turn : (l ms col : List ℕ) (i j s : ℕ) → i < length l → length ms ≡ length l → s ≡ cond (eqb (get_or ms i 0) 0) 1 0 → Inv l ms col i j
    → Inv l ms (set col j (get_or col i 0)) (i + 1) (j + s)
turn l ms col i j s h n e inv = elim (both (eqb (get_or ms i 0) 0)) [
  | inl q ↦
      let one : j + s ≡ suc j = let o : s ≡ 1 = rw q at e in omega arith in
      rw (add-one, one) (keep l ms col i j h n (eqb-true (get_or ms i 0) 0 q) inv)
  | inr q ↦
      let none : j + s ≡ j = let o : s ≡ 0 = rw q at e in omega arith in
      rw (add-one, none) (skip l ms col i j h n (eqb-false (get_or ms i 0) 0 q) inv)
]

-- at the end, with the places that are left cleared
done : (l ms col : List ℕ) (i j : ℕ) → length ms ≡ length l → i ≡ length l → Inv l ms col i j → take j col ++ replicate (length col - j) 0 ≡ kept_by ms 0 l
unfolding kept_by
done l ms col i j n e inv =
    let K = keep_by ms l in
    let none : keep_by (drop i ms) (drop i l) ≡ [] =
    λ k. keep_by (drop_of_length-le ms {i = i} (omega arith) k) (drop_of_length-le l {i = i} (omega arith) k) in
    let front : take j col ≡ K = sym (append-nil (take j col)) ∙ ap (λ (x : List ℕ). take j col ++ x) (sym none) ∙ inv.is in
    let all : length K ≡ j = sym (ap length front) ∙ length-take-le j col (omega (arith, inv.ahead, inv.long)) in
    let many : length col - j ≡ length l - length K = omega (arith, inv.long) in
    λ k. front k ++ replicate (many k) 0

pub loop-i-init : goal.loop-i-init
loop-i-init c = record { ahead = omega arith; long = refl; rest = λ k h. refl; is = refl }

pub overflow_add-j : goal.overflow_add-j
overflow_add-j c =
    let m = get_or c.args.marks.now c.loop-i.i 0 in
    omega (arith, c.places_on-j.ensures, one_at_most (eqb m 0), c.loop-i.invariant.ahead)

pub loop-i-preserved : goal.loop-i-preserved
loop-i-preserved c =
    let a = c.args in
    let l = c.loop-i in
    turn a.col.now a.marks.now l.col l.i l.j c.places_on-j.result (omega (arith, c.requires)) c.requires c.places_on-j.ensures l.invariant

pub returns : goal.returns
returns c =
    let a = c.args in
    let l = c.loop-i in
    c.clear_from.ensures ∙ done a.col.now a.marks.now l.col l.i l.j c.requires (omega (arith, c.requires)) l.invariant

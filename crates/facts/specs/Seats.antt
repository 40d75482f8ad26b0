-- The tables by seat: what is said of seat s by its words, in numbers, is said of the model's lists. Assumes nothing.
use Rattle.std.specs.Prelude.{◌≡◌, refl, Bool, true, ◌&&◌, List, [], ◌∷◌, ℕ, zero, suc, ◌+◌, ◌≤◌, ◌<◌, length, get_or, eqb, leb}
use Rattle.std.proofs.Common.{sym, ap, ◌∙◌, inl, inr, le_of_suc-le-suc, not-suc-le-zero, add-one, arith, eqb-true, eq-eqb, le-leb}
use Rattle.std.proofs.Math.Bool.{and-true, and_comm}
use Rattle.std.proofs.lemmas.Bool.{eqb-false}
use Rattle.model.specs.Numbers.{max_seat}
use Rattle.model.specs.Lists.{every}
use Rattle.model.specs.Seats.{oldest}
use Rattle.model.specs.Layout.{start_ok, starts_ok}
use Rattle.model.specs.declared.Entry.{Entry}
use Rattle.laws.specs.Numbers.{both, and_left, and_right, and_both}
use Rattle.facts.specs.Flags.{same, Says, says_le, says_eq, says_and, says_iff}
use Rattle.facts.specs.Words.{at, count, latest, start, body, seat_key, cooling, racer, oldest_of, start_by, most_raced}

-- a start by its oldest, in the model's order
pub start_is : (c old s : ℕ) → start_by (c + 1) old s ≡ start_ok c old s
unfolding start_by start_ok every
start_is c old s = rw add-one (elim (both (eqb old 0)) [
  | inl q ↦ rw q (same (leb s (suc c) && eqb s 0) (eqb s 0) (λ h. and_right (leb s (suc c)) (eqb s 0) h)
      (λ h. and_both (leb s (suc c)) (eqb s 0) (le-leb s (suc c) (omega (arith, eqb-true s 0 h))) h))
  | inr q ↦ rw q (and_comm (leb s (suc c)) (leb old s) ∙ ap (λ (b : Bool). leb old s && b) (sym (and-true (leb s (suc c)))))
])

-- the starts from the seat i on
pub says_starts : (c : ℕ) (l : List Entry) (i : ℕ) (ss : List ℕ)
    → Says (starts_ok c l i ss) ((k : ℕ) → k < length ss → start_ok c (oldest (i + k) l) (get_or ss k 0) ≡ true)
unfolding starts_ok
says_starts c l i [] = record { gives = λ e k h. absurd (not-suc-le-zero h); from = λ f. refl }
says_starts c l i (s ∷ ss) =
    let rest = says_starts c l (suc i) ss in
    let a = start_ok c (oldest i l) s in
    let b = starts_ok c l (suc i) ss in
    record {
      gives = λ e. at (and_left a b e) (rest.gives (and_right a b e));
      from = λ f. and_both a b (rw (zeroth i) at (f 0 (omega arith))) (rest.from (λ k h. rw (next i k) (f (suc k) (omega arith))));
    }
  where
    zeroth : (i : ℕ) → i + 0 ≡ i
    zeroth i = omega arith

    next : (i k : ℕ) → suc i + k ≡ i + suc k
    next i k = omega arith

    at : start_ok c (oldest i l) s ≡ true → ((k : ℕ) → k < length ss → start_ok c (oldest (suc i + k) l) (get_or ss k 0) ≡ true)
        → (k : ℕ) → k < length (s ∷ ss) → start_ok c (oldest (i + k) l) (get_or (s ∷ ss) k 0) ≡ true
    at a f zero h = rw (zeroth i) a
    at a f (suc k) h = rw (next i k) at (f k (le_of_suc-le-suc h))

-- a racer word that is at most `most_raced`
pub raced_le : (probe r : ℕ) → r ≤ most_raced probe → r ≤ 256
unfolding most_raced
raced_le probe r h = elim (both (eqb probe 0)) [
  | inl q ↦ let z : r ≤ 0 = rw q at h in omega arith
  | inr q ↦ rw q at h
]

pub raced_none : (probe r : ℕ) → probe ≡ 0 → r ≤ most_raced probe → r ≡ 0
unfolding most_raced
raced_none probe r z h = let k : r ≤ 0 = rw (eq-eqb probe 0 z) at h in omega arith

pub raced_in : (probe r : ℕ) → r ≤ 256 → (probe ≡ 0 → r ≡ 0) → r ≤ most_raced probe
unfolding most_raced
raced_in probe r h f = elim (both (eqb probe 0)) [
  | inl q ↦ let z = f (eqb-true probe 0 q) in rw q (omega arith)
  | inr q ↦ rw q h
]

-- ---- a seat in numbers

-- a start a, of a seat whose oldest record is from old
pub record Start (late old a : ℕ) : Type 0 where
  pub most : a ≤ late
  pub absent : old ≡ 0 → a ≡ 0
  pub there : 0 < old → old ≤ a

pub start_says : (late old a : ℕ) → Says (start_by late old a) (Start late old a)
unfolding start_by
start_says late old a = elim (both (eqb old 0)) [
  | inl q ↦ let z = eqb-true old 0 q in rw q (says_iff (says_and (leb a late) (eqb a 0) (says_le a late) (says_eq a 0))
      (λ p. record { most = p.0; absent = λ e. p.1; there = λ l. absurd (omega arith) }) (λ r. (r.most, r.absent z)))
  | inr q ↦ let n = eqb-false old 0 q in rw q (says_iff (says_and (leb a late) (leb old a) (says_le a late) (says_le old a))
      (λ p. record { most = p.0; absent = λ e. absurd (n e); there = λ l. p.1 }) (λ r. (r.most, r.there (omega (arith, n)))))
]

pub record Seat (ws : List ℕ) (s : ℕ) : Type 0 where
  pub starts : Start (latest ws) (oldest_of ws s (count ws)) (start ws s)
  pub bodies : body ws s ≤ latest ws
  pub keys : seat_key ws s ≤ max_seat
  pub cools : cooling ws s ≤ latest ws
  pub races : racer ws s ≤ most_raced (at ws 61)

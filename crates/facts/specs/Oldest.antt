-- The table of each seat's oldest record and the sum, as a loop over the records makes them. Assumes nothing.
use Rattle.std.specs.Prelude.{◌≡◌, refl, true, ◌||◌, List, ℕ, zero, suc, ◌+◌, ◌≤◌, ◌<◌, eqb, ltb, length, get_or, set, replicate}
use Rattle.std.proofs.Common.{sym, ap, ◌∙◌, inl, inr, arith, add-one, get_or-set_same, get_or-set_other, eqb-true, leb-true}
use Rattle.std.proofs.lemmas.Bool.{eqb-false}
use Rattle.model.specs.Numbers.{max_seat, max_estimate}
use Rattle.laws.specs.Numbers.{both, and_left, and_right}
use Rattle.facts.specs.Flags.{all_below, hold_row}
use Rattle.facts.specs.Words.{owner, time, estimate, clock, fields, fields_fit, rises, record_fits, earlier, oldest_of, sum_of}

pub get_d_replicate : (n s : ℕ) → get_or {A = ℕ} (replicate n 0) s 0 ≡ 0
get_d_replicate zero s = refl
get_d_replicate (suc n) zero = refl
get_d_replicate (suc n) (suc s) = get_d_replicate n s

-- the table is the definition's own values, at every seat, before the first record
pub table_start : (ws : List ℕ) (s : ℕ) → get_or {A = ℕ} (replicate 256 0) s 0 ≡ oldest_of ws s 0
unfolding oldest_of
table_start ws s = get_d_replicate 256 s

-- and after a turn
pub table_step : (ws first : List ℕ) (i v : ℕ) → owner ws i < length first → ((s : ℕ) → get_or first s 0 ≡ oldest_of ws s i)
    → v ≡ earlier (time ws i) (get_or first (owner ws i) 0) → (s : ℕ) → get_or (set first (owner ws i) v) s 0 ≡ oldest_of ws s (i + 1)
unfolding oldest_of
table_step ws first i v h tab e s = rw add-one (elim (both (eqb (owner ws i) s)) [
  | inl q ↦ let o = eqb-true (owner ws i) s q in
      rw q (ap (λ (k : ℕ). get_or (set first (owner ws i) v) k 0) (sym o) ∙ get_or-set_same first (owner ws i) v 0 h ∙ e
      ∙ ap (earlier (time ws i)) (tab (owner ws i) ∙ ap (λ (k : ℕ). oldest_of ws k i) o))
  | inr q ↦ rw q (get_or-set_other first (owner ws i) s v 0 (λ z. eqb-false (owner ws i) s q (sym z)) ∙ tab s)
])

earlier_le : (t m b : ℕ) → t + 1 ≤ b → m ≤ b → earlier t m ≤ b
unfolding earlier
earlier_le t m b h k = elim (both (eqb m 0 || ltb (t + 1) m)) [
  | inl q ↦ rw q h
  | inr q ↦ rw q k
]

-- what a record that fits says in numbers
pub record Known (ws : List ℕ) (i : ℕ) : Type 0 where
  pub seat : owner ws i ≤ 255
  pub past : time ws i ≤ clock ws
  pub small : estimate ws i ≤ 4294967295

pub known : (ws : List ℕ) (i : ℕ) → record_fits ws i ≡ true → Known ws i
unfolding record_fits fields_fit fields
known ws i h =
    let f = hold_row (fields ws i) (and_left (fields_fit ws i) (rises ws i) h) in
    record {
      seat = leb-true (owner ws i) max_seat (f 0);
      past = leb-true (time ws i) (clock ws) (f 1);
      small = leb-true (estimate ws i) max_estimate (f 4);
    }

pub oldest_le : (ws : List ℕ) (s n : ℕ) → all_below n (record_fits ws) ≡ true → oldest_of ws s n ≤ clock ws + 1
unfolding oldest_of all_below
oldest_le ws s zero h = omega arith
oldest_le ws s (suc n) h =
    let k : Known ws n = known ws n (and_right (all_below n (record_fits ws)) (record_fits ws n) h) in
    let less = oldest_le ws s n (and_left (all_below n (record_fits ws)) (record_fits ws n) h) in
    elim (both (eqb (owner ws n) s)) [
      | inl q ↦ rw q (earlier_le (time ws n) (oldest_of ws s n) (clock ws + 1) (omega (arith, k.past)) less)
      | inr q ↦ rw q less
    ]

pub sum_more : (ws : List ℕ) (i : ℕ) → sum_of ws (i + 1) ≡ sum_of ws i + estimate ws i
unfolding sum_of
sum_more ws i = rw add-one

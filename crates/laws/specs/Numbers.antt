-- Laws about the model's `Numbers`: lesser and greater, rounding up, times that may be missing. Assumes nothing.
use Rattle.std.specs.Prelude.{◌≡◌, refl, ◌⊎◌, Bool, true, false, cond, ◌&&◌, ℕ, suc, ◌+◌, ◌-◌, ◌*◌, ◌/◌, ◌%◌, ◌≤◌, ◌<◌, leb, min, max}
use Rattle.std.proofs.Common.{sym, ap, ◌∙◌, inl, inr, mul-le-mul, arith, le-leb, leb-true, leb-false, ne_eqb}
use Rattle.std.proofs.Math.Nat.{add-div_right, div-eq_of_lt, div-eq_of_lt-le, add-mul, one-mul}
use Rattle.std.proofs.lemmas.Grind.{div_ceil_times}
use Rattle.model.specs.Numbers.{lesser, greater, div_ceil, max_height, next_height, present, age}

-- ---- tests

pub both : (b : Bool) → (b ≡ true) ⊎ (b ≡ false)
both true = inl refl
both false = inr refl

pub and_left : (a b : Bool) → (a && b) ≡ true → a ≡ true
and_left true b e = refl
and_left false b e = e

pub and_right : (a b : Bool) → (a && b) ≡ true → b ≡ true
and_right true b e = e
and_right false b e = let z : ◌≡◌ {A = ℕ} 0 1 = cc in absurd (omega arith)

pub and_both : (a b : Bool) → a ≡ true → b ≡ true → (a && b) ≡ true
and_both a b p q = rw (p, q)

-- a case that a test picks, where both are the same
pub cond_same : {A : Type 0} (b : Bool) (x : A) → cond b x x ≡ x
cond_same true x = refl
cond_same false x = refl

-- two tests of which each says what the other does
pub leb_alike : (a b c d : ℕ) → (a ≤ b → c ≤ d) → (c ≤ d → a ≤ b) → leb a b ≡ leb c d
leb_alike a b c d p q = elim (both (leb a b)) [
  | inl t ↦ rw t (sym (le-leb c d (p (leb-true a b t))))
  | inr t ↦ elim (both (leb c d)) [
    | inl u ↦ absurd (omega (arith, leb-false a b t, q (leb-true c d u)))
    | inr u ↦ rw (t, u)
  ]
]

-- a product within two bounds
pub product_le : (a m b n : ℕ) → a ≤ m → b ≤ n → a * b ≤ m * n
product_le a m b n p q = mul-le-mul p q

-- ---- lesser

pub lesser_first : (a b : ℕ) → a ≤ b → lesser a b ≡ a
unfolding lesser
lesser_first a b h = rw (le-leb a b h)

pub lesser_second : (a b : ℕ) → b ≤ a → lesser a b ≡ b
unfolding lesser
lesser_second a b h = elim (both (leb a b)) [
  | inl q ↦ rw q (omega (arith, leb-true a b q))
  | inr q ↦ rw q
]

pub lesser_le_first : (a b : ℕ) → lesser a b ≤ a
unfolding lesser
lesser_le_first a b = elim (both (leb a b)) [
  | inl q ↦ rw q (omega arith)
  | inr q ↦ rw q (omega (arith, leb-false a b q))
]

pub lesser_le_second : (a b : ℕ) → lesser a b ≤ b
unfolding lesser
lesser_le_second a b = elim (both (leb a b)) [
  | inl q ↦ rw q (leb-true a b q)
  | inr q ↦ rw q (omega arith)
]

-- what is at most both
pub le_lesser : (a b c : ℕ) → c ≤ a → c ≤ b → c ≤ lesser a b
unfolding lesser
le_lesser a b c p q = elim (both (leb a b)) [
  | inl t ↦ rw t p
  | inr t ↦ rw t q
]

-- ---- greater

pub greater_second : (a b : ℕ) → a ≤ b → greater a b ≡ b
unfolding greater
greater_second a b h = rw (le-leb a b h)

pub greater_first : (a b : ℕ) → b ≤ a → greater a b ≡ a
unfolding greater
greater_first a b h = elim (both (leb a b)) [
  | inl q ↦ rw q (omega (arith, leb-true a b q))
  | inr q ↦ rw q
]

pub second_le_greater : (a b : ℕ) → b ≤ greater a b
unfolding greater
second_le_greater a b = elim (both (leb a b)) [
  | inl q ↦ rw q (omega arith)
  | inr q ↦ rw q (omega (arith, leb-false a b q))
]

-- what is at least both
pub greater_le : (a b c : ℕ) → a ≤ c → b ≤ c → greater a b ≤ c
unfolding greater
greater_le a b c p q = elim (both (leb a b)) [
  | inl t ↦ rw t q
  | inr t ↦ rw t p
]

-- ---- the library's names

pub min_is : (a b : ℕ) → min a b ≡ lesser a b
unfolding lesser
min_is a b = elim (both (leb a b)) [
  | inl t ↦ rw t (omega (arith, leb-true a b t))
  | inr t ↦ rw t (omega (arith, leb-false a b t))
]

pub max_is : (a b : ℕ) → max a b ≡ greater a b
unfolding greater
max_is a b = elim (both (leb a b)) [
  | inl t ↦ rw t (omega (arith, leb-true a b t))
  | inr t ↦ rw t (omega (arith, leb-false a b t))
]

-- ---- rounding up, without the sum that could wrap

pub div_ceil_zero : (b : ℕ) → 0 < b → div_ceil 0 b ≡ 0
unfolding div_ceil
div_ceil_zero b h = div-eq_of_lt (omega arith)

pub div_ceil_pos : (a b : ℕ) → 0 < a → 0 < b → div_ceil a b ≡ (a - 1) / b + 1
unfolding div_ceil
div_ceil_pos a b p h =
    let e : a + (b - 1) ≡ a - 1 + b = omega arith in
    ap (λ (n : ℕ). n / b) e ∙ add-div_right (a - 1) h

pub div_ceil_is : (a b : ℕ) → 0 < b → a / b + min 1 (a % b) ≡ div_ceil a b
unfolding div_ceil
div_ceil_is a b p =
    let k = a / b + min 1 (a % b) in
    let t = div_ceil_times a b p in
    sym (div-eq_of_lt-le b (omega (arith, t.1)) (omega (arith, t.0, add-mul k 1 b, one-mul b)))

-- ---- clocks

-- ---- heights

pub next_height_le : (h : ℕ) → next_height h ≤ max_height
unfolding next_height
next_height_le h = lesser_le_second (suc h) max_height

-- ---- times that may be missing

pub present_none : present 0 ≡ false
unfolding present
present_none = refl

pub present_some : (s : ℕ) → (s ≡ 0 → ⊥) → present s ≡ true
unfolding present
present_some s n = rw (ne_eqb s 0 n)

-- the age, in the code's terms
pub age_is : (now s : ℕ) → age now s ≡ now + 1 - s
unfolding age
age_is now s = omega arith

-- no age of a stored time is above the clock
pub age_le : (now s : ℕ) → (s ≡ 0 → ⊥) → age now s ≤ now
unfolding age
age_le now s n = omega (arith, n)

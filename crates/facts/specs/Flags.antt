-- Flags: rows of tests, tests of each number below n, tests of each element of a list, and what a flag says. Assumes nothing.
use Rattle.std.specs.Prelude.{◌≡◌, Bool, true, false, ◌&&◌, List, [], ◌∷◌, ◌++◌, get_or, eqb, leb}
use Rattle.std.proofs.Math.Path.{refl, ap}
use Rattle.std.proofs.Common.{sym, ◌∙◌, le_of_suc-le-suc, not-suc-le-zero, eq-or-lt_of_le, arith, eqb-true, leb-true, eq-eqb, le-leb}
use Rattle.std.proofs.Math.Logic.{⊎_elim}
use Rattle.std.proofs.Math.Bool.{and-false, and-true, and_assoc}
use Prim.Native.Nat.{ℕ, zero, suc, ◌+◌, ◌≤◌, ◌<◌}
use Rattle.std.proofs.Math.Numerals.{add-one}
use Rattle.model.specs.Lists.{all, every}
use Rattle.laws.specs.Numbers.{and_left, and_right, and_both}
use Rattle.laws.specs.Every.{hold}

-- two flags are equal where each is true when the other is
pub same : (a b : Bool) → (a ≡ true → b ≡ true) → (b ≡ true → a ≡ true) → a ≡ b
same true b f g = sym (f refl)
same false true f g = g refl
same false false f g = refl

-- ---- a row of tests, as code writes it: a & b & c

abbrev row : Bool → List Bool → Bool
row a [] = a
row a (b ∷ bs) = row (a && b) bs

unfoldable pub fold : List Bool → Bool
fold [] = true
fold (b ∷ bs) = row b bs

row_every : (a : Bool) (bs : List Bool) → row a bs ≡ (a && every bs)
unfolding every
row_every a [] = sym (and-true a)
row_every a (b ∷ bs) = row_every (a && b) bs ∙ and_assoc a b (every bs)

pub fold_every : (bs : List Bool) → fold bs ≡ every bs
unfolding fold every
fold_every [] = refl
fold_every (b ∷ bs) = row_every b bs

-- each of a row that holds
pub hold_row : (bs : List Bool) → fold bs ≡ true → (i : ℕ) → get_or bs i true ≡ true
hold_row bs e = hold bs (sym (fold_every bs) ∙ e)

-- one more test that holds
pub more : {b : Bool} (bs : List Bool) → b ≡ true → every bs ≡ true → every (b ∷ bs) ≡ true
unfolding every
more {b} bs p q = and_both b (every bs) p q

pub none : every [] ≡ true
unfolding every
none = refl

-- ---- each number below n

-- p holds of 0, 1, .., n - 1
unfoldable pub all_below : ℕ → (ℕ → Bool) → Bool
all_below zero p = true
all_below (suc n) p = all_below n p && p n

module _ (p : ℕ → Bool) where
  pub all_none : all_below 0 p ≡ true
  unfolding all_below
  all_none = refl

  -- a turn
  pub all_more : (n : ℕ) → all_below (n + 1) p ≡ (all_below n p && p n)
  unfolding all_below
  all_more n = rw add-one

  -- an exit
  pub all_fails : (n i : ℕ) → i < n → p i ≡ false → all_below n p ≡ false
  unfolding all_below
  all_fails zero i h e = absurd (not-suc-le-zero h)
  all_fails (suc n) i h e =
      ⊎_elim (λ q. ap (λ (k : ℕ). all_below n p && p k) (sym q) ∙ rw (e, and-false)) (λ l. rw (all_fails n i l e)) (eq-or-lt_of_le (le_of_suc-le-suc h))

  -- what it says of each
  pub all_at : (n i : ℕ) → i < n → all_below n p ≡ true → p i ≡ true
  unfolding all_below
  all_at zero i h e = absurd (not-suc-le-zero h)
  all_at (suc n) i h e =
      ⊎_elim (λ q. rw q (and_right (all_below n p) (p n) e)) (λ l. all_at n i l (and_left (all_below n p) (p n) e)) (eq-or-lt_of_le (le_of_suc-le-suc h))

  -- and back
  pub all_each : (n : ℕ) → ((k : ℕ) → k < n → p k ≡ true) → all_below n p ≡ true
  unfolding all_below
  all_each zero f = refl
  all_each (suc n) f = and_both (all_below n p) (p n) (all_each n (λ k l. f k (omega arith))) (f n (omega arith))

-- ---- each element of a list

pub all_append : {A : Type 0} (p : A → Bool) (xs ys : List A) → all p (xs ++ ys) ≡ (all p xs && all p ys)
unfolding all
all_append p [] ys = refl
all_append p (x ∷ xs) ys = ap (λ (b : Bool). p x && b) (all_append p xs ys) ∙ sym (and_assoc (p x) (all p xs) (all p ys))

pub all_snoc : {A : Type 0} (p : A → Bool) (xs : List A) (x : A) → all p (xs ++ (x ∷ [])) ≡ (all p xs && p x)
unfolding all
all_snoc p xs x = all_append p xs (x ∷ []) ∙ ap (λ (b : Bool). all p xs && b) (and-true (p x))

-- ---- a flag and what it says

pub record Says (b : Bool) (P : Type 0) : Type 0 where
  pub gives : b ≡ true → P
  pub from : P → b ≡ true

pub says_same : (a b : Bool) {P : Type 0} → Says a P → Says b P → a ≡ b
says_same a b x y = same a b (λ h. y.from (x.gives h)) (λ h. x.from (y.gives h))

pub says_le : (a b : ℕ) → Says (leb a b) (a ≤ b)
says_le a b = record { gives = leb-true a b; from = le-leb a b }

pub says_eq : (a b : ℕ) → Says (eqb a b) (a ≡ b)
says_eq a b = record { gives = eqb-true a b; from = eq-eqb a b }

pub says_and : (a b : Bool) {P Q : Type 0} → Says a P → Says b Q → Says (a && b) (P × Q)
says_and a b x y = record {
  gives = λ h. (x.gives (and_left a b h), y.gives (and_right a b h));
  from = λ p. and_both a b (x.from p.0) (y.from p.1);
}

pub says_iff : {b : Bool} {P Q : Type 0} → Says b P → (P → Q) → (Q → P) → Says b Q
says_iff s f g = record { gives = λ h. f (s.gives h); from = λ q. s.from (g q) }

pub says_is : {a b : Bool} {P : Type 0} → a ≡ b → Says b P → Says a P
says_is e s = record { gives = λ h. s.gives (sym e ∙ h); from = λ p. e ∙ s.from p }

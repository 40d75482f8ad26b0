-- What holds of every element of a list, what is in it, and how many of its elements a test holds of. Assumes nothing.
use Rattle.std.specs.Prelude.{◌≡◌, ◌⊎◌, Bool, true, false, cond, not, ◌||◌, length, take, drop}
use Rattle.std.proofs.Math.Path.{refl}
use Rattle.std.proofs.Common.{sym, subst, true≢false}
use Rattle.std.proofs.Math.Logic.{inl, inr}
use mathlib.Core.List.{List, [], ◌∷◌, ◌++◌, Memᴰ}
use Prim.Native.Nat.{ℕ, zero, suc, ◌+◌, ◌≤◌}
use native.Mathlib.Omega.{arith}
use Rattle.model.specs.Lists.{all, any, select, count}
use Rattle.laws.specs.Numbers.{both}

-- ---- tests

pub or_false : (a b : Bool) → (a || b) ≡ false → (a ≡ false) × (b ≡ false)
or_false true b e = absurd (true≢false e)
or_false false b e = (refl, e)

pub or_true : (a b : Bool) → (a || b) ≡ true → (a ≡ true) ⊎ (b ≡ true)
or_true true b e = inl refl
or_true false b e = inr e

pub not_not : (b : Bool) → not (not b) ≡ b
not_not true = refl
not_not false = refl

-- a fact of whichever a test picks
pub picked : {A : Type 0} (P : A → Type 0) (b : Bool) (x y : A) → (b ≡ true → P x) → (b ≡ false → P y) → P (cond b x y)
picked P true x y f g = f refl
picked P false x y f g = g refl

-- ---- every element

module _ {A : Type 0} where
  abbrev pub Every : (A → Type 0) → List A → Type 0
  Every P [] = Unit {0}
  Every P (x ∷ l) = P x × Every P l

  pub every_map : (P Q : A → Type 0) → ((x : A) → P x → Q x) → (l : List A) → Every P l → Every Q l
  every_map P Q f [] a = tt
  every_map P Q f (x ∷ l) a = (f x a.0, every_map P Q f l a.1)

  pub every_both : (P Q R : A → Type 0) → ((x : A) → P x → Q x → R x) → (l : List A) → Every P l → Every Q l → Every R l
  every_both P Q R f [] a b = tt
  every_both P Q R f (x ∷ l) a b = (f x a.0 b.0, every_both P Q R f l a.1 b.1)

  module _ (P : A → Type 0) where
    pub every_append : (xs ys : List A) → Every P xs → Every P ys → Every P (xs ++ ys)
    every_append [] ys a b = b
    every_append (x ∷ xs) ys a b = (a.0, every_append xs ys a.1 b)

    pub every_take : (n : ℕ) (l : List A) → Every P l → Every P (take n l)
    every_take zero l a = tt
    every_take (suc n) [] a = tt
    every_take (suc n) (x ∷ l) a = (a.0, every_take n l a.1)

    pub every_select : (q : A → Bool) (l : List A) → Every P l → Every P (select q l)
    unfolding select
    every_select q [] a = tt
    every_select q (x ∷ l) a = elim (both (q x)) [
      | inl e ↦ rw e (a.0, every_select q l a.1)
      | inr e ↦ rw e (every_select q l a.1)
    ]

    pub every_own : (l : List A) → ((x : A) → Memᴰ x l → P x) → Every P l
    every_own [] f = tt
    every_own (x ∷ l) f = (f x (Memᴰ.head refl), every_own l (λ y m. f y (Memᴰ.tail m)))

  module _ (p : A → Bool) where
    pub selected : (l : List A) → Every (λ x. p x ≡ true) (select p l)
    unfolding select
    selected [] = tt
    selected (x ∷ l) = elim (both (p x)) [
      | inl e ↦ rw e (e, selected l)
      | inr e ↦ rw e (selected l)
    ]

    -- none
    pub none_any : (l : List A) → Every (λ x. p x ≡ false) l → any p l ≡ false
    unfolding any
    none_any [] a = refl
    none_any (x ∷ l) a = rw a.0 (none_any l a.1)

    pub any_none : (l : List A) → any p l ≡ false → Every (λ x. p x ≡ false) l
    unfolding any
    any_none [] e = tt
    any_none (x ∷ l) e = let z = or_false (p x) (any p l) e in (z.0, any_none l z.1)

    pub none_all : (l : List A) → Every (λ x. p x ≡ false) l → all (λ x. not (p x)) l ≡ true
    unfolding all
    none_all [] a = refl
    none_all (x ∷ l) a = rw a.0 (none_all l a.1)

    pub member_any : (x : A) (l : List A) → Memᴰ x l → p x ≡ true → any p l ≡ true
    unfolding any
    member_any x [] m e = elim m [ ]
    member_any x (y ∷ l) (Memᴰ.head q) e = rw (subst (λ (z : A). p z ≡ true) q e)
    member_any x (y ∷ l) (Memᴰ.tail m) e = elim (both (p y)) [
      | inl q ↦ rw q
      | inr q ↦ rw q (member_any x l m e)
    ]

    pub any_left : (xs ys : List A) → any p xs ≡ true → any p (xs ++ ys) ≡ true
    unfolding any
    any_left [] ys e = absurd (true≢false (sym e))
    any_left (x ∷ xs) ys e = elim (both (p x)) [
      | inl q ↦ rw q
      | inr q ↦ let e' = rw q at e in rw q (any_left xs ys e')
    ]

    pub any_right : (xs ys : List A) → any p ys ≡ true → any p (xs ++ ys) ≡ true
    unfolding any
    any_right [] ys e = e
    any_right (x ∷ xs) ys e = elim (both (p x)) [
      | inl q ↦ rw q
      | inr q ↦ rw q (any_right xs ys e)
    ]

    pub member_select : (x : A) (l : List A) → Memᴰ x l → p x ≡ true → Memᴰ x (select p l)
    unfolding select
    member_select x [] m e = elim m [ ]
    member_select x (y ∷ l) (Memᴰ.head q) e = rw (subst (λ (z : A). p z ≡ true) q e) (Memᴰ.head q)
    member_select x (y ∷ l) (Memᴰ.tail m) e = elim (both (p y)) [
      | inl q ↦ rw q (Memᴰ.tail (member_select x l m e))
      | inr q ↦ rw q (member_select x l m e)
    ]

    -- a test that holds of every element takes nothing away
    pub select_all : (l : List A) → Every (λ x. p x ≡ true) l → select p l ≡ l
    unfolding select
    select_all [] a = refl
    select_all (x ∷ l) a = rw a.0 (λ i. x ∷ select_all l a.1 i)

    -- ---- how many

    pub count_append : (xs ys : List A) → count p (xs ++ ys) ≡ count p xs + count p ys
    unfolding count
    count_append [] ys = omega arith
    count_append (x ∷ xs) ys = elim (both (p x)) [
      | inl e ↦ rw e (omega (arith, count_append xs ys))
      | inr e ↦ rw e (count_append xs ys)
    ]

    pub count_take : (n : ℕ) (l : List A) → count p (take n l) ≤ count p l
    unfolding count
    count_take zero l = omega arith
    count_take (suc n) [] = omega arith
    count_take (suc n) (x ∷ l) = elim (both (p x)) [
      | inl e ↦ rw e (omega (arith, count_take n l))
      | inr e ↦ rw e (count_take n l)
    ]

    pub count_drop : (n : ℕ) (l : List A) → count p (drop n l) ≤ count p l
    unfolding count
    count_drop zero l = omega arith
    count_drop (suc n) [] = omega arith
    count_drop (suc n) (x ∷ l) = elim (both (p x)) [
      | inl e ↦ rw e (omega (arith, count_drop n l))
      | inr e ↦ rw e (count_drop n l)
    ]

    pub count_select : (q : A → Bool) (l : List A) → count p (select q l) ≤ count p l
    unfolding count select
    count_select q [] = omega arith
    count_select q (x ∷ l) = elim (both (q x)) [
      | inl d ↦ rw d (elim (both (p x)) [ inl e ↦ rw e (omega (arith, count_select q l)) | inr e ↦ rw e (count_select q l) ])
      | inr d ↦ rw d (elim (both (p x)) [ inl e ↦ rw e (omega (arith, count_select q l)) | inr e ↦ rw e (count_select q l) ])
    ]

    pub count_none : (l : List A) → any p l ≡ false → count p l ≡ 0
    unfolding any count
    count_none [] e = refl
    count_none (x ∷ l) e = let z = or_false (p x) (any p l) e in rw z.0 (count_none l z.1)

    pub zero_any : (l : List A) → count p l ≡ 0 → any p l ≡ false
    unfolding any count
    zero_any [] z = refl
    zero_any (x ∷ l) z = elim (both (p x)) [
      | inl e ↦ let z' = rw e at z in absurd (omega arith)
      | inr e ↦ let z' = rw e at z in rw e (zero_any l z')
    ]

    -- those that are left and those that are not
    pub split_length : (l : List A) → length l ≡ length (select p l) + count (λ x. not (p x)) l
    unfolding count select
    split_length [] = refl
    split_length (x ∷ l) = elim (both (p x)) [
      | inl e ↦ rw e (omega (arith, split_length l))
      | inr e ↦ rw e (omega (arith, split_length l))
    ]

  pub count_or : (p q : A → Bool) (l : List A) → count (λ x. p x || q x) l ≤ count p l + count q l
  unfolding count
  count_or p q [] = omega arith
  count_or p q (x ∷ l) = elim (both (p x)) [
    | inl d ↦ rw d (elim (both (q x)) [ inl e ↦ rw e (omega (arith, count_or p q l)) | inr e ↦ rw e (omega (arith, count_or p q l)) ])
    | inr d ↦ rw d (elim (both (q x)) [ inl e ↦ rw e (omega (arith, count_or p q l)) | inr e ↦ rw e (omega (arith, count_or p q l)) ])
  ]

  -- two tests that say the same
  pub any_alike : (p q : A → Bool) → ((x : A) → p x ≡ q x) → (l : List A) → any p l ≡ any q l
  unfolding any
  any_alike p q f [] = refl
  any_alike p q f (x ∷ l) = λ i. f x i || any_alike p q f l i

  pub select_alike : (p q : A → Bool) (l : List A) → Every (λ x. p x ≡ q x) l → select p l ≡ select q l
  unfolding select
  select_alike p q [] a = refl
  select_alike p q (x ∷ l) a = rw a.0 (elim (both (q x)) [
    | inl e ↦ rw e (λ i. x ∷ select_alike p q l a.1 i)
    | inr e ↦ rw e (select_alike p q l a.1)
  ])

  pub count_alike : (p q : A → Bool) → ((x : A) → p x ≡ q x) → (l : List A) → count p l ≡ count q l
  unfolding count
  count_alike p q f [] = refl
  count_alike p q f (x ∷ l) = rw (f x) (elim (both (q x)) [
    | inl e ↦ rw e (omega (arith, count_alike p q f l))
    | inr e ↦ rw e (count_alike p q f l)
  ])

-- Lists as bags. `weigh f l` weighs a list; two lists are the same bag when every weight finds them equal (`Same`). Totals, counts by seat,
-- "no hash twice" and "exactly one" are weights, so that most steps are one `omega`, and no permutation is built before the claim. Assumes nothing.
use Rattle.std.specs.Prelude.{◌≡◌, ℕ, ◌+◌, length}
use Rattle.std.proofs.Math.Path.{refl}
use mathlib.Core.List.{List, [], ◌∷◌, ◌++◌}
use native.Mathlib.Omega.{arith}

module _ {A : Type 0} where
  unfoldable pub weigh : (A → ℕ) → List A → ℕ
  weigh f [] = 0
  weigh f (x ∷ l) = f x + weigh f l

  abbrev pub one : A → ℕ
  one x = 1

  -- the same things, each as often, in any order
  abbrev pub Same : List A → List A → Type 0
  Same xs ys = (f : A → ℕ) → weigh f xs ≡ weigh f ys

  pub weigh_append : (f : A → ℕ) (xs ys : List A) → weigh f (xs ++ ys) ≡ weigh f xs + weigh f ys
  unfolding weigh
  weigh_append f [] ys = omega arith
  weigh_append f (x ∷ xs) ys = omega (arith, weigh_append f xs ys)

  pub weigh_one : (l : List A) → weigh one l ≡ length l
  unfolding weigh
  weigh_one [] = refl
  weigh_one (x ∷ l) = omega (arith, weigh_one l)

  -- `Pick e l m`: m is l without one e. Both a removal and an insertion are one
  pub data Pick (e : A) : List A → List A → Type 0 where
    here : {l : List A} → Pick e (e ∷ l) l
    there : {x : A} {l m : List A} → Pick e l m → Pick e (x ∷ l) (x ∷ m)

  pub pick_weigh : {e : A} {l m : List A} (f : A → ℕ) → Pick e l m → weigh f l ≡ f e + weigh f m
  unfolding weigh
  pick_weigh f here = refl
  pick_weigh f (there p) = omega (arith, pick_weigh f p)

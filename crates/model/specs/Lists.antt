-- What the definitions say of lists. Each is by recursion on the list, at any type of element. Definitions only.
use Rattle.std.specs.Prelude.{ℕ, suc, ◌-◌, Bool, true, false, cond, ◌&&◌, ◌||◌, List, [], ◌∷◌, ◌++◌, length, replicate}

module _ {A : Type 0} where
  -- xs with z in the places up to n
  unfoldable pub pad : ℕ → A → List A → List A
  pad n z xs = xs ++ replicate (n - length xs) z

  -- p holds of each element
  unfoldable pub all : (A → Bool) → List A → Bool
  all p [] = true
  all p (x ∷ l) = p x && all p l

  -- p holds of some element
  unfoldable pub any : (A → Bool) → List A → Bool
  any p [] = false
  any p (x ∷ l) = p x || any p l

  -- the elements that p holds of, in order
  unfoldable pub select : (A → Bool) → List A → List A
  select p [] = []
  select p (x ∷ l) = cond (p x) (x ∷ select p l) (select p l)

  -- how many elements p holds of
  unfoldable pub count : (A → Bool) → List A → ℕ
  count p [] = 0
  count p (x ∷ l) = cond (p x) (suc (count p l)) (count p l)

-- all of some tests hold
unfoldable pub every : List Bool → Bool
every [] = true
every (b ∷ bs) = b && every bs

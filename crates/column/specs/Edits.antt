-- What the operations on a column do to its list, at any type of element. Definitions only.
use Rattle.std.specs.Prelude.{ℕ, zero, suc, ◌-◌, List, [], ◌∷◌, ◌++◌, length, take, replicate}

module _ {A : Type 0} where
  -- xs without its element at n, or xs where it has none there
  abbrev pub remove_at : ℕ → List A → List A
  remove_at zero [] = []
  remove_at zero (x ∷ xs) = xs
  remove_at (suc n) [] = []
  remove_at (suc n) (x ∷ xs) = x ∷ remove_at n xs

  -- xs with v at n, where n is at most its length
  abbrev pub insert_at : ℕ → A → List A → List A
  insert_at zero v xs = v ∷ xs
  insert_at (suc n) v [] = v ∷ []
  insert_at (suc n) v (x ∷ xs) = x ∷ insert_at n v xs

  -- the same, as long as it was: the last element falls off
  unfoldable pub inserted : ℕ → A → List A → List A
  inserted n v xs = take (length xs) (insert_at n v xs)

  -- x before r where its mark is 0
  abbrev pub kept_if : ℕ → A → List A → List A
  kept_if zero x r = x ∷ r
  kept_if (suc m) x r = r

  -- the elements whose mark is 0, in order
  abbrev pub keep_by : List ℕ → List A → List A
  keep_by [] xs = xs
  keep_by (m ∷ ms) [] = []
  keep_by (m ∷ ms) (x ∷ xs) = kept_if m x (keep_by ms xs)

  -- the same, as long as it was: z in the places that are left
  unfoldable pub kept_by : List ℕ → A → List A → List A
  kept_by ms z xs = keep_by ms xs ++ replicate (length xs - length (keep_by ms xs)) z

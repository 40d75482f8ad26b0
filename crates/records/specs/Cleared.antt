-- Marks of which every one is set: nothing is kept by them. Assumes nothing.
use Rattle.std.specs.Prelude.{◌≡◌, refl, List, [], ◌∷◌, ◌++◌, ℕ, zero, suc, ◌+◌, ◌-◌, ◌*◌, ◌≤◌, length, take, drop, replicate}
use Rattle.std.proofs.Common.{sym, zero-le, suc-le-suc, le_of_suc-le-suc, not-suc-le-zero, arith}
use Rattle.std.proofs.lemmas.List.{length-replicate}
use Rattle.column.specs.Edits.{keep_by, kept_by}
use Rattle.laws.specs.Rows.{mid}

unfoldable pub all_marked : List ℕ
all_marked = replicate 256 1

pub length_all : length all_marked ≡ 256
unfolding all_marked
length_all = length-replicate {A = ℕ} 256 1

module _ {A : Type 0} where
  take_few : (n : ℕ) (l : List A) → length (take n l) ≤ n
  take_few zero l = zero-le
  take_few (suc n) [] = zero-le
  take_few (suc n) (x ∷ l) = suc-le-suc (take_few n l)

  none_left : (n : ℕ) (l : List A) → length l ≤ n → keep_by (replicate n 1) l ≡ []
  none_left zero [] h = refl
  none_left zero (x ∷ l) h = absurd (not-suc-le-zero h)
  none_left (suc n) [] h = refl
  none_left (suc n) (x ∷ l) h = none_left n l (le_of_suc-le-suc h)

  pub none_stays : (l : List A) → length l ≤ 256 → keep_by all_marked l ≡ []
  unfolding all_marked
  none_stays l h = none_left 256 l h

-- the column at k, of which no word stays
pub cleared : (k : ℕ) (w : List ℕ) → take 0 (mid k w) ++ replicate (length (mid k w) - 0) 0 ≡ kept_by all_marked 0 (mid k w)
unfolding kept_by
cleared k w =
    let few : length (mid k w) ≤ 256 = omega (arith, take_few (256 * k + 256 - 256 * k) (drop (256 * k) w)) in
    let none = sym (none_stays (mid k w) few) in
    λ i. none i ++ replicate (length (mid k w) - length (none i)) 0

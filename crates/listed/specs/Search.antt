-- Searches in a list, and in the hashes that a list of words holds, place by place. Assumes nothing.
use Rattle.std.specs.Prelude.{◌≡◌, ℕ, zero, suc, ◌+◌, ◌*◌, ◌/◌, ◌<◌, ◌≤◌, Bool, true, false, ◌||◌, List, [], ◌∷◌, length, get_or, take, slice_index, slice_index_or}
use Rattle.std.proofs.Math.Path.{refl, ap}
use Rattle.std.proofs.Common.{sym, ◌∙◌, not-suc-le-zero, le_of_suc-le-suc, add-one, arith, get_or-take, length-take-le}
use Rattle.std.proofs.Math.Logic.{inl, inr}
use Rattle.std.proofs.Math.Bool.{or-true}
use Rattle.std.proofs.lemmas.Bool.{false≢true}
use Rattle.model.specs.Lists.{any}
use Rattle.model.specs.Hash.{hash, hashes_in, same}
use Rattle.model.specs.declared.Hash.{Hash}
use Rattle.laws.specs.Numbers.{both}
use Rattle.listed.specs.Index.{hash_at}

-- ---- in any list

module _ {A : Type 0} (p : A → Bool) where
  pub any_at : (l : List A) (k : ℕ) (z : A) → k < length l → p (slice_index_or l k z) ≡ true → any p l ≡ true
  unfolding any
  any_at [] k z h e = absurd (not-suc-le-zero h)
  any_at (x ∷ l) zero z h e = ap (λ (b : Bool). b || any p l) e
  any_at (x ∷ l) (suc k) z h e = ap (λ (b : Bool). p x || b) (any_at l k z (le_of_suc-le-suc h) e) ∙ or-true (p x)

  pub any_none : (l : List A) (z : A) → ((k : ℕ) → k < length l → p (slice_index_or l k z) ≡ false) → any p l ≡ false
  unfolding any
  any_none [] z f = refl
  any_none (x ∷ l) z f = ap (λ (b : Bool). b || any p l) (f 0 (omega arith)) ∙ any_none l z (λ k h. f (suc k) (omega arith))

  -- what is found in fewer is found in more
  pub any_take : (m n : ℕ) (l : List A) → m ≤ n → any p (take m l) ≡ true → any p (take n l) ≡ true
  unfolding any
  any_take zero n l h e = absurd (false≢true e)
  any_take (suc m) zero l h e = absurd (not-suc-le-zero h)
  any_take (suc m) (suc n) [] h e = e
  any_take (suc m) (suc n) (x ∷ l) h e = elim (both (p x)) [
    | inl q ↦ rw q
    | inr q ↦ rw q (any_take m n l (le_of_suc-le-suc h) (rw q at e))
  ]

  one_more : (l : List A) (i : ℕ) (z : A) → i < length l → any p (take i l) ≡ false → p (slice_index_or l i z) ≡ false → any p (take (suc i) l) ≡ false
  unfolding any
  one_more [] i z h e q = absurd (not-suc-le-zero h)
  one_more (x ∷ l) zero z h e q = ap (λ (b : Bool). b || false) q
  one_more (x ∷ l) (suc i) z h e q = elim (both (p x)) [
    | inl t ↦ absurd (false≢true (sym (rw t at e)))
    | inr t ↦ rw t (one_more l i z (le_of_suc-le-suc h) (rw t at e) q)
  ]

  -- one more that is not it
  pub any_more : (l : List A) (i : ℕ) (z : A) → i < length l → any p (take i l) ≡ false → p (slice_index_or l i z) ≡ false → any p (take (i + 1) l) ≡ false
  any_more l i z h e q = ap (λ (n : ℕ). any p (take n l)) (add-one i) ∙ one_more l i z h e q

-- ---- in the hashes of a list of words

later : (a b c d : ℕ) (l : List ℕ) (i : ℕ) → hash_at l i ≡ hash_at (a ∷ b ∷ c ∷ d ∷ l) (suc i)
later a b c d l i =
    let m : List ℕ = a ∷ b ∷ c ∷ d ∷ l in
    let e : (k : ℕ) → slice_index l (4 * i + k) ≡ get_or m (4 * suc i + k) 0 =
    λ k. let q : suc (suc (suc (suc (4 * i + k)))) ≡ 4 * suc i + k = omega arith in ap (λ (n : ℕ). slice_index m n) q in
    let z : get_or l (4 * i) 0 ≡ get_or m (4 * suc i) 0 = let q : suc (suc (suc (suc (4 * i)))) ≡ 4 * suc i = omega arith in ap (λ (n : ℕ). slice_index m n) q in
    λ j. hash (z j) (e 1 j) (e 2 j) (e 3 j)

-- as many as there are whole ones
pub length_hashes : (l : List ℕ) → length (hashes_in l) ≡ length l / 4
unfolding hashes_in
length_hashes [] = refl
length_hashes (a ∷ []) = refl
length_hashes (a ∷ b ∷ []) = refl
length_hashes (a ∷ b ∷ c ∷ []) = refl
length_hashes (a ∷ b ∷ c ∷ d ∷ l) = omega (arith, length_hashes l)

-- the one at a place
pub hashes_at : (l : List ℕ) (i : ℕ) (z : Hash) → i < length l / 4 → slice_index_or (hashes_in l) i z ≡ hash_at l i
unfolding hashes_in
hashes_at [] i z h = absurd (omega arith)
hashes_at (a ∷ []) i z h = absurd (omega arith)
hashes_at (a ∷ b ∷ []) i z h = absurd (omega arith)
hashes_at (a ∷ b ∷ c ∷ []) i z h = absurd (omega arith)
hashes_at (a ∷ b ∷ c ∷ d ∷ l) zero z h = refl
hashes_at (a ∷ b ∷ c ∷ d ∷ l) (suc i) z h = hashes_at l i z (omega arith) ∙ later a b c d l i

-- the first n hashes of the list name the hash, or do not, by what stands at each place
module _ (h : Hash) (l : List ℕ) (n : ℕ) (w : 4 * n ≤ length l) where
  nobody : Hash
  nobody = hash 0 0 0 0

  first_length : length (take n (hashes_in l)) ≡ n
  first_length = length-take-le n (hashes_in l) (omega (arith, length_hashes l))

  first_at : (k : ℕ) → k < n → slice_index_or (take n (hashes_in l)) k nobody ≡ hash_at l k
  first_at k i = get_or-take n (hashes_in l) k nobody i ∙ hashes_at l k nobody (omega arith)

  pub named_at : (k : ℕ) → k < n → same h (hash_at l k) ≡ true → any (same h) (take n (hashes_in l)) ≡ true
  named_at k i e = any_at (same h) (take n (hashes_in l)) k nobody (omega (arith, first_length)) (ap (same h) (first_at k i) ∙ e)

  pub named_none : ((k : ℕ) → k < n → same h (hash_at l k) ≡ false) → any (same h) (take n (hashes_in l)) ≡ false
  named_none f = any_none (same h) (take n (hashes_in l)) nobody (λ k i. let j : k < n = omega (arith, first_length) in ap (same h) (first_at k j) ∙ f k j)

  pub named_more : (i : ℕ) → i < n → any (same h) (take i (hashes_in l)) ≡ false → same h (hash_at l i) ≡ false → any (same h) (take (i + 1) (hashes_in l)) ≡ false
  named_more i k e q =
      any_more (same h) (hashes_in l) i nobody (omega (arith, length_hashes l)) e (ap (same h) (hashes_at l i nobody (omega arith)) ∙ q)

-- A column is its live elements with z in the places up to n. What an operation does to the column, it does to the live elements: no contract has to
-- name how many are live. Assumes nothing.
use mathlib.Core.Path.{◌≡◌, refl, sym, ap, ◌∙◌}
use mathlib.Core.List.{List, [], ◌∷◌, ◌++◌, append_assoc}
use Prim.Native.Nat.{ℕ, zero, suc, ◌+◌, ◌-◌, ◌≤◌, ◌<◌}
use native.Mathlib.Nat.{le_of_suc-le-suc, not-suc-le-zero}
use native.Mathlib.Omega.{arith}
use lib.ListN.{length, take, drop, replicate, length-append, length-replicate, replicate-append-replicate}
use lib.Seq.{take_at}
use Rattle.model.specs.Lists.{pad}
use Rattle.column.specs.Edits.{remove_at, insert_at, inserted, keep_by, kept_by}
use Rattle.column.proofs.Laws.{length_kept, length_inserted}

module _ {A : Type 0} where
  -- z at the end of zs
  snoc_replicate : (r : ℕ) (z : A) → replicate r z ++ (z ∷ []) ≡ replicate (suc r) z
  snoc_replicate zero z = refl
  snoc_replicate (suc r) z = ap (λ (q : List A). z ∷ q) (snoc_replicate r z)

  removed_append : (k : ℕ) (l r : List A) → k < length l → remove_at k (l ++ r) ≡ remove_at k l ++ r
  removed_append zero [] r h = absurd (not-suc-le-zero h)
  removed_append zero (x ∷ l) r h = refl
  removed_append (suc k) [] r h = absurd (not-suc-le-zero h)
  removed_append (suc k) (x ∷ l) r h = ap (λ (q : List A). x ∷ q) (removed_append k l r (le_of_suc-le-suc h))

  length_remove_at : (k : ℕ) (l : List A) → k < length l → suc (length (remove_at k l)) ≡ length l
  length_remove_at zero [] h = absurd (not-suc-le-zero h)
  length_remove_at zero (x ∷ l) h = refl
  length_remove_at (suc k) [] h = absurd (not-suc-le-zero h)
  length_remove_at (suc k) (x ∷ l) h = ap suc (length_remove_at k l (le_of_suc-le-suc h))

  pub removed_pad : (n k : ℕ) (z : A) (l : List A) → k < length l → length l ≤ n → remove_at k (pad n z l) ++ (z ∷ []) ≡ pad n z (remove_at k l)
  unfolding pad
  removed_pad n k z l h le =
      let e : suc (n - length l) ≡ n - length (remove_at k l) = omega (arith, length_remove_at k l h) in
      ap (λ (q : List A). q ++ (z ∷ [])) (removed_append k l (replicate (n - length l) z) h)
      ∙ append_assoc (remove_at k l) (replicate (n - length l) z) (z ∷ [])
      ∙ ap (λ (q : List A). remove_at k l ++ q) (snoc_replicate (n - length l) z ∙ ap (λ (r : ℕ). replicate r z) e)

  insert_append : (k : ℕ) (v : A) (l r : List A) → k ≤ length l → insert_at k v (l ++ r) ≡ insert_at k v l ++ r
  insert_append zero v l r h = refl
  insert_append (suc k) v [] r h = absurd (not-suc-le-zero h)
  insert_append (suc k) v (x ∷ l) r h = ap (λ (q : List A). x ∷ q) (insert_append k v l r (le_of_suc-le-suc h))

  pub inserted_pad : (n k : ℕ) (v z : A) (l : List A) → k ≤ length l → length l < n → inserted k v (pad n z l) ≡ pad n z (insert_at k v l)
  unfolding inserted pad
  inserted_pad n k v z l h lt =
      let r = n - length (insert_at k v l) in
      let e : n - length l ≡ suc r = omega (arith, length_inserted k v l) in
      let long : length (insert_at k v l ++ replicate r z) ≡ length (l ++ replicate (n - length l) z) =
      simp (length-append, length-replicate) (omega (arith, length_inserted k v l)) in
      ap (take (length (l ++ replicate (n - length l) z)))
      (insert_append k v l (replicate (n - length l) z) h
      ∙ ap (λ (q : List A). insert_at k v l ++ q) (ap (λ (m : ℕ). replicate m z) e ∙ sym (snoc_replicate r z))
      ∙ sym (append_assoc (insert_at k v l) (replicate r z) (z ∷ [])))
      ∙ take_at (insert_at k v l ++ replicate r z) (z ∷ []) (length (l ++ replicate (n - length l) z)) long

  -- zs of which some are kept are zs
  keep_replicate : (ms : List ℕ) (r : ℕ) (z : A) → keep_by ms (replicate r z) ≡ replicate (length (keep_by ms (replicate r z))) z
  keep_replicate [] r z = ap (λ (m : ℕ). replicate m z) (sym (length-replicate r z))
  keep_replicate (m ∷ ms) zero z = refl
  keep_replicate (zero ∷ ms) (suc r) z = ap (λ (q : List A). z ∷ q) (keep_replicate ms r z)
  keep_replicate (suc m ∷ ms) (suc r) z = keep_replicate ms r z

  keep_append : (ms : List ℕ) (l r : List A) → length l ≤ length ms → keep_by ms (l ++ r) ≡ keep_by (take (length l) ms) l ++ keep_by (drop (length l) ms) r
  keep_append ms [] r h = refl
  keep_append [] (x ∷ l) r h = absurd (not-suc-le-zero h)
  keep_append (zero ∷ ms) (x ∷ l) r h = ap (λ (q : List A). x ∷ q) (keep_append ms l r (le_of_suc-le-suc h))
  keep_append (suc m ∷ ms) (x ∷ l) r h = keep_append ms l r (le_of_suc-le-suc h)

  pub kept_pad : (n : ℕ) (ms : List ℕ) (z : A) (l : List A) → length l ≤ n → length l ≤ length ms → kept_by ms z (pad n z l) ≡ pad n z (keep_by (take (length l) ms) l)
  unfolding kept_by pad
  kept_pad n ms z l le lm =
      let K = keep_by (take (length l) ms) l in
      let zs = replicate (n - length l) z in
      let D = keep_by (drop (length l) ms) zs in
      let whole : keep_by ms (l ++ zs) ≡ K ++ D = keep_append ms l zs lm in
      let most : length D ≤ length zs = length_kept (drop (length l) ms) zs in
      let room : length K ≤ length l = length_kept (take (length l) ms) l in
      let many : length (l ++ zs) - length (keep_by ms (l ++ zs)) ≡ n - length l + length l - length K - length D =
      rw (whole, length-append, length-append, length-replicate) (omega arith) in
      let total : length D + (n - length l + length l - length K - length D) ≡ n - length K = omega (arith, length-replicate (n - length l) z) in
      (λ i. whole i ++ replicate (many i) z)
      ∙ append_assoc K D (replicate (n - length l + length l - length K - length D) z)
      ∙ ap (λ (q : List A). K ++ (q ++ replicate (n - length l + length l - length K - length D) z)) (keep_replicate (drop (length l) ms) (n - length l) z)
      ∙ ap (λ (q : List A). K ++ q) (replicate-append-replicate (length D) (n - length l + length l - length K - length D) z ∙ ap (λ (m : ℕ). replicate m z) total)

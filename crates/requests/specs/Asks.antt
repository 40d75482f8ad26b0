-- A request's list as its two slices hold it: how many asks, and each one. Assumes nothing.
use Rattle.std.specs.Prelude.{◌≡◌, refl, List, [], ◌∷◌, ℕ, zero, suc, ◌+◌, ◌*◌, ◌/◌, ◌≤◌, ◌<◌, length, get_or, drop, leb}
use Rattle.std.proofs.Common.{sym, ap, ◌∙◌, inl, inr, not-suc-le-zero, le_of_suc-le-suc, arith, leb-true, leb-false}
use Rattle.model.specs.Numbers.{lesser}
use Rattle.model.specs.Hash.{hash}
use Rattle.model.specs.Calls.{Ask, asks_in}
use Rattle.model.specs.declared.Hash.{Hash}
use Rattle.laws.specs.Numbers.{both, lesser_first, lesser_second}

lesser_suc : (m n k : ℕ) → k ≡ suc m → suc (lesser m n) ≡ lesser k (suc n)
lesser_suc m n k e = elim (both (leb m n)) [
  | inl q ↦ let h = leb-true m n q in rw (lesser_first m n h, lesser_first k (suc n) (omega arith)) (sym e)
  | inr q ↦ let h = leb-false m n q in rw (lesser_second m n (omega arith), lesser_second k (suc n) (omega arith))
]

-- as many as both slices hold whole
pub asks_length : (hs ts : List ℕ) → length (asks_in hs ts) ≡ lesser (length hs / 4) (length ts)
unfolding asks_in
asks_length hs [] = sym (lesser_second (length hs / 4) 0 (omega arith))
asks_length [] (t ∷ ts) = sym (lesser_first 0 (length (t ∷ ts)) (omega arith))
asks_length (a ∷ []) (t ∷ ts) = sym (lesser_first 0 (length (t ∷ ts)) (omega arith))
asks_length (a ∷ b ∷ []) (t ∷ ts) = sym (lesser_first 0 (length (t ∷ ts)) (omega arith))
asks_length (a ∷ b ∷ c ∷ []) (t ∷ ts) = sym (lesser_first 0 (length (t ∷ ts)) (omega arith))
asks_length (a ∷ b ∷ c ∷ d ∷ hs) (t ∷ ts) = ap suc (asks_length hs ts) ∙ lesser_suc (length hs / 4) (length ts) _ (omega arith)

-- no more than either
pub asks_within : (hs ts : List ℕ) → (4 * length (asks_in hs ts) ≤ length hs) × (length (asks_in hs ts) ≤ length ts)
unfolding asks_in
asks_within hs [] = (omega arith, omega arith)
asks_within [] (t ∷ ts) = (omega arith, omega arith)
asks_within (a ∷ []) (t ∷ ts) = (omega arith, omega arith)
asks_within (a ∷ b ∷ []) (t ∷ ts) = (omega arith, omega arith)
asks_within (a ∷ b ∷ c ∷ []) (t ∷ ts) = (omega arith, omega arith)
asks_within (a ∷ b ∷ c ∷ d ∷ hs) (t ∷ ts) = let r = asks_within hs ts in (omega (arith, r.0), omega (arith, r.1))

-- the hash whose four words start at k
abbrev pub hash_in : List ℕ → ℕ → Hash
hash_in hs k = hash (get_or hs k 0) (get_or hs (k + 1) 0) (get_or hs (k + 2) 0) (get_or hs (k + 3) 0)

-- the ask at i
abbrev pub ask_at : List ℕ → List ℕ → ℕ → Ask
ask_at hs ts i = record { hash = hash_in hs (4 * i); height = get_or ts i 0 }

later : (a b c d t : ℕ) (hs ts : List ℕ) (i : ℕ) → ask_at hs ts i ≡ ask_at (a ∷ b ∷ c ∷ d ∷ hs) (t ∷ ts) (suc i)
later a b c d t hs ts i =
    let l = a ∷ b ∷ c ∷ d ∷ hs in
    let e : (k : ℕ) → get_or hs (4 * i + k) 0 ≡ get_or l (4 * suc i + k) 0 =
    λ k. let q : suc (suc (suc (suc (4 * i + k)))) ≡ 4 * suc i + k = omega arith in ap (λ (n : ℕ). get_or l n 0) q in
    let z : get_or hs (4 * i) 0 ≡ get_or l (4 * suc i) 0 = let q : suc (suc (suc (suc (4 * i)))) ≡ 4 * suc i = omega arith in ap (λ (n : ℕ). get_or l n 0) q in
    λ j. record { hash = hash (z j) (e 1 j) (e 2 j) (e 3 j); height = get_or ts i 0 }

-- the asks from i on
pub asks_drop : (hs ts : List ℕ) (i : ℕ) → i < length (asks_in hs ts) → drop i (asks_in hs ts) ≡ ask_at hs ts i ∷ drop (suc i) (asks_in hs ts)
unfolding asks_in
asks_drop hs [] i h = absurd (not-suc-le-zero h)
asks_drop [] (t ∷ ts) i h = absurd (not-suc-le-zero h)
asks_drop (a ∷ []) (t ∷ ts) i h = absurd (not-suc-le-zero h)
asks_drop (a ∷ b ∷ []) (t ∷ ts) i h = absurd (not-suc-le-zero h)
asks_drop (a ∷ b ∷ c ∷ []) (t ∷ ts) i h = absurd (not-suc-le-zero h)
asks_drop (a ∷ b ∷ c ∷ d ∷ hs) (t ∷ ts) zero h = refl
asks_drop (a ∷ b ∷ c ∷ d ∷ hs) (t ∷ ts) (suc i) h =
    asks_drop hs ts i (le_of_suc-le-suc h) ∙ ap (λ (x : Ask). x ∷ drop (suc i) (asks_in hs ts)) (later a b c d t hs ts i)

-- A list mapped in place, from the front: what a loop that stores f of each element has at its head. Assumes nothing.
use Rattle.std.specs.Prelude.{◌≡◌, refl, cond, List, [], ◌∷◌, map, ℕ, zero, suc, ◌≤◌, ◌<◌, length, get_or, set}
use Rattle.std.proofs.Common.{ap, le_of_suc-le-suc, not-suc-le-zero}
use Rattle.model.specs.Cooling.{cools}

-- a stored time stays while its key is cooling: what `cooling_noted` maps
abbrev pub kept : ℕ → ℕ → ℕ → ℕ
kept cooldown now = λ (s : ℕ). cond (cools cooldown now s) s 0

module _ {A : Type 0} (f : A → A) where
  -- the first i elements mapped
  abbrev pub mapped : ℕ → List A → List A
  mapped zero l = l
  mapped (suc i) [] = []
  mapped (suc i) (x ∷ l) = f x ∷ mapped i l

  -- the next one is as it was
  pub mapped_read : (i : ℕ) (l : List A) (d : A) → get_or (mapped i l) i d ≡ get_or l i d
  mapped_read zero l d = refl
  mapped_read (suc i) [] d = refl
  mapped_read (suc i) (x ∷ l) d = mapped_read i l d

  -- a turn's store
  pub mapped_step : (i : ℕ) (l : List A) (v d : A) → i < length l → v ≡ f (get_or l i d) → set (mapped i l) i v ≡ mapped (suc i) l
  mapped_step i [] v d h e = absurd (not-suc-le-zero h)
  mapped_step zero (x ∷ l) v d h e = ap (λ (y : A). y ∷ l) e
  mapped_step (suc i) (x ∷ l) v d h e = ap (λ (r : List A). f x ∷ r) (mapped_step i l v d (le_of_suc-le-suc h) e)

  pub mapped_done : (i : ℕ) (l : List A) → length l ≤ i → mapped i l ≡ map f l
  mapped_done zero [] h = refl
  mapped_done zero (x ∷ l) h = absurd (not-suc-le-zero h)
  mapped_done (suc i) [] h = refl
  mapped_done (suc i) (x ∷ l) h = ap (λ (r : List A). f x ∷ r) (mapped_done i l (le_of_suc-le-suc h))

-- What a `match` on a number picks: what stands beside the number, or what stands for every other one. Assumes nothing.
use Rattle.std.specs.Prelude.{◌≡◌, refl, Bool, true, false, cond, List, [], ◌∷◌, ℕ, eqb}
use Rattle.std.proofs.Common.{ne_eqb}

module _ {A : Type 0} where
  abbrev pub pick : List (ℕ × A) → A → ℕ → A
  pick [] other k = other
  pick (x ∷ l) other k = cond (eqb k x.0) x.1 (pick l other k)

  -- k is none of the numbers, in the form that an arm `_` knows it
  abbrev pub Missed : List (ℕ × A) → ℕ → Type 0 → Type 0
  Missed [] k P = P
  Missed (x ∷ l) k P = Missed l k (P × (k ≡ x.0 → ⊥))

  before : (l : List (ℕ × A)) (k : ℕ) (P : Type 0) → Missed l k P → P
  before [] k P m = m
  before (x ∷ l) k P m = (before l k (P × (k ≡ x.0 → ⊥)) m).0

  pub picks_other : (l : List (ℕ × A)) (other : A) (k : ℕ) (P : Type 0) → Missed l k P → pick l other k ≡ other
  picks_other [] other k P m = refl
  picks_other (x ∷ l) other k P m =
      let n : k ≡ x.0 → ⊥ = (before l k (P × (k ≡ x.0 → ⊥)) m).1 in
      rw (ne_eqb k x.0 n) (picks_other l other k (P × (k ≡ x.0 → ⊥)) m)

  -- what holds of everything that may be picked holds of what is
  abbrev pub Each : (A → Type 0) → List (ℕ × A) → Type 0
  Each P [] = Unit {0}
  Each P (x ∷ l) = P x.1 × Each P l

  either : (P : A → Type 0) (b : Bool) (x y : A) → P x → P y → P (cond b x y)
  either P true x y p q = p
  either P false x y p q = q

  pub picks_such : (P : A → Type 0) (l : List (ℕ × A)) (other : A) → Each P l → P other → (k : ℕ) → P (pick l other k)
  picks_such P [] other e p k = p
  picks_such P (x ∷ l) other e p k = either P (eqb k x.0) x.1 (pick l other k) e.0 (picks_such P l other e.1 p k)

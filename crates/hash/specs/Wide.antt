-- Comparing two numbers word by word: laws about the model's `wide`, of any two numbers. Assumes nothing.
use Rattle.std.specs.Prelude.{◌≡◌, ℕ, ◌+◌, ◌*◌, ◌<◌, eqb, ltb}
use Rattle.std.proofs.Common.{sym, inl, inr, arith, ltb-true, ltb-false, lt-ltb, le-ltb, eq-eqb, ne_eqb, eqb-true}
use Rattle.std.proofs.lemmas.Bool.{eqb-false}
use Rattle.model.specs.Hash.{base, wide}
use Rattle.laws.specs.Numbers.{both}

-- ---- one more word

-- where the words before differ, so do the numbers
pub wide_ne : (x y u v : ℕ) → u < base → v < base → (x ≡ y → ⊥) → wide x u ≡ wide y v → ⊥
unfolding wide
wide_ne x y u v a b n q = n (omega arith)

-- and they decide
pub wide_first : (x y u v : ℕ) → u < base → v < base → (x ≡ y → ⊥) → ltb x y ≡ ltb (wide x u) (wide y v)
unfolding wide
wide_first x y u v a b n = elim (both (ltb x y)) [
  | inl p ↦ rw p (sym (lt-ltb (x * base + u) (y * base + v) (omega (arith, ltb-true x y p))))
  | inr p ↦ rw p (sym (le-ltb (x * base + u) (y * base + v) (omega (arith, ltb-false x y p, n))))
]

-- where they are equal, the next word decides
pub wide_rest : (x y u v : ℕ) → x ≡ y → ltb u v ≡ ltb (wide x u) (wide y v)
unfolding wide
wide_rest x y u v q = elim (both (ltb u v)) [
  | inl p ↦ rw p (sym (lt-ltb (x * base + u) (y * base + v) (omega (arith, ltb-true u v p))))
  | inr p ↦ rw p (sym (le-ltb (x * base + u) (y * base + v) (omega (arith, ltb-false u v p))))
]

pub wide_ne_rest : (x y u v : ℕ) → x ≡ y → (u ≡ v → ⊥) → wide x u ≡ wide y v → ⊥
unfolding wide
wide_ne_rest x y u v p n q = n (omega arith)

pub wide_eq : (x y u v : ℕ) → x ≡ y → u ≡ v → wide x u ≡ wide y v
wide_eq x y u v p q = rw (p, q)

-- equality, by the next word
pub wide_last : (x y u v : ℕ) → x ≡ y → eqb u v ≡ eqb (wide x u) (wide y v)
unfolding wide
wide_last x y u v q = elim (both (eqb u v)) [
  | inl p ↦ rw p (sym (eq-eqb (x * base + u) (y * base + v) (omega (arith, eqb-true u v p))))
  | inr p ↦ rw p (sym (ne_eqb (x * base + u) (y * base + v) (λ r. eqb-false u v p (omega arith))))
]

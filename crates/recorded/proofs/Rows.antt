-- Two rows of words are the same where the library's `==` says so. Assumes nothing.
use Rattle.std.proofs.Common.{◌≡◌, ℕ, zero, suc, ◌<◌, Bool, List, length, get_or, ap, not-suc-le-zero, arith, eqb, inl, inr}
use Rattle.std.specs.Bool.{Decides}
use lib.Pointwise.{pointwise}
use Rattle.std.proofs.lemmas.Bool.{cases_lt}
use Rattle.std.proofs.lemmas.Bool.Decides.{Decides-eqb, Decides-and, same_from_decides}
use Rattle.std.proofs.lemmas.List.{ext_get_or}
use Rattle.std.proofs.lemmas.Slice.Eq.{slice_eq-Decides}
use Rattle.recorded.specs.Same.{same_below, same_rows}

-- what is the same below k
below : (a b : List ℕ) (k : ℕ) → Decides (same_below a b k) ((length a ≡ length b) × ((i : ℕ) → i < k → get_or a i 0 ≡ get_or b i 0))
unfolding same_below
below a b zero = let d = Decides-eqb (length a) (length b) in (λ e. (d.0 e, λ i h. absurd (not-suc-le-zero h)), λ p. d.1 p.0)
below a b (suc k) =
    let d = Decides-and _ _ (below a b k) (Decides-eqb (get_or a k 0) (get_or b k 0)) in (
      λ e. let both = d.0 e in (
        both.0.0,
        λ i h. elim (cases_lt i k) [
          | inl less ↦ both.0.1 i less
          | inr not_less ↦ let same : i ≡ k = omega arith in rw same both.1
        ],
      ),
      λ p. d.1 ((p.0, λ i h. p.1 i (omega arith)), p.1 k (omega arith)),
    )

-- the library's `==`
pub rows_same : (a b : List ℕ) (r : Bool) → r ≡ pointwise eqb a b → r ≡ same_rows a b
unfolding same_rows
rows_same a b r e =
    let d = below a b (length a) in
    same_from_decides r (same_below a b (length a)) (slice_eq-Decides Decides-eqb a b r e)
    (λ t. ext_get_or 0 a b (d.0 t).0 (d.0 t).1, λ s. d.1 (ap length s, λ i h. ap (λ (l : List ℕ). get_or l i 0) s))

-- Expiry as one comparison with a limit. A start of 64 bits that is there is expired where it is at most the limit. Assumes nothing.
use Rattle.std.specs.Prelude.{◌≡◌, Bool, cond, not, ◌&&◌, ℕ, suc, ◌-◌, ◌≤◌, ◌<◌, eqb, leb}
use Rattle.std.proofs.Common.{sym, ◌∙◌, inl, inr, arith, eqb-true, leb-true, leb-false, le-leb}
use Rattle.std.proofs.lemmas.Bool.{eqb-false, lt-leb}
use Rattle.model.specs.Numbers.{present, age}
use Rattle.model.specs.Time.{expired}
use Rattle.laws.specs.Numbers.{both}

unfoldable pub expiry_limit : ℕ → ℕ → ℕ
expiry_limit now timeout = cond (eqb timeout 0) 18446744073709551615 (suc now - timeout)

-- of a start and a timeout that are there
swap : (now timeout start : ℕ) → 0 < timeout → 0 < start → leb start (suc now - timeout) ≡ leb timeout (suc now - start)
swap now timeout start t s = elim (both (leb start (suc now - timeout))) [
  | inl q ↦ q ∙ sym (le-leb timeout (suc now - start) (omega (arith, leb-true start (suc now - timeout) q)))
  | inr q ↦ q ∙ sym (lt-leb timeout (suc now - start) (omega (arith, leb-false start (suc now - timeout) q)))
]

by_limit : (now timeout start : ℕ) → 0 < start → start ≤ 18446744073709551615 → leb start (expiry_limit now timeout) ≡ leb timeout (suc now - start)
unfolding expiry_limit
by_limit now timeout start s fits = elim (both (eqb timeout 0)) [
  | inl q ↦ rw q (le-leb start 18446744073709551615 fits ∙ sym (le-leb timeout (suc now - start) (omega (arith, eqb-true timeout 0 q))))
  | inr q ↦ rw q (swap now timeout start (omega (arith, eqb-false timeout 0 q)) s)
]

pub limit_reached : (now timeout start : ℕ) → start ≤ 18446744073709551615 → (not (eqb start 0) && leb start (expiry_limit now timeout)) ≡ expired now timeout start
unfolding expired present age
limit_reached now timeout start fits = elim (both (eqb start 0)) [
  | inl q ↦ rw q
  | inr q ↦ rw q (by_limit now timeout start (omega (arith, eqb-false start 0 q)) fits)
]

-- `expired`, of whatever moment and timeout the limit is of
abbrev pub Reached : ℕ → ℕ → Bool → Type 0
Reached limit start r = (now timeout : ℕ) → limit ≡ expiry_limit now timeout → r ≡ expired now timeout start

-- `seats::start_reset` meets its contract. Assumes nothing.
use mathlib.Core.Path.{◌≡◌, sym, ap, ◌∙◌}
use Prim.Native.Nat.{ℕ, suc, ◌≤◌, ◌<◌}
use native.Mathlib.Omega.{arith}
use native.Mathlib.Numerals.{add-one}
use borrow.Author.Tests.{lt-ltb, le-ltb, eq-eqb, ne_eqb}
use Rattle.model.specs.Numbers.{greater}
use Rattle.model.specs.Seats.{start_reset}
use Rattle.seats.proofs.start_reset.Goals as goal

-- the cases in which some are left
module _ (now t u start : ℕ) where
  older : t < u → start_reset now (suc t) (suc u) start ≡ suc now
  older h = rw (lt-ltb (suc t) (suc u) (omega arith))

  equal : t ≡ u → start_reset now (suc t) (suc u) start ≡ greater start (suc t)
  equal e = rw (le-ltb (suc t) (suc u) (omega arith), eq-eqb (suc t) (suc u) (ap suc e)) (ap (λ (n : ℕ). greater start (suc n)) (sym e))

  newer : u ≤ t → (t ≡ u → ⊥) → start_reset now (suc t) (suc u) start ≡ start
  newer h n = rw (le-ltb (suc t) (suc u) (omega arith), ne_eqb (suc t) (suc u) (λ q. n (omega (arith, q))))

pub returns-then-removed-u : goal.returns-then-removed-u
returns-then-removed-u c = rw c.in-Some.is (add-one _ ∙ sym (older _ _ _ c.args.start c.if-removed-u.true))

pub returns-then-removed-u-2 : goal.returns-then-removed-u-2
returns-then-removed-u-2 c = rw c.in-Some.is (c.greater.ensures ∙ ap (greater c.args.start) (add-one _) ∙ sym (equal c.args.clock _ _ c.args.start c.if-removed-u-2.true))

pub returns-else-removed-u-2 : goal.returns-else-removed-u-2
returns-else-removed-u-2 c = rw c.in-Some.is (sym (newer c.args.clock _ _ c.args.start c.if-removed-u.false c.if-removed-u-2.false))

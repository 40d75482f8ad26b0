-- `seats::noted` meets its contract. Assumes nothing.
use mathlib.Core.Path.{◌≡◌, refl, sym}
use Prim.Native.Nat.{ℕ, zero, suc}
use native.Mathlib.Numerals.{add-one}
use Rattle.model.specs.Seats.{start_noted}
use Rattle.seats.proofs.noted.Goals as goal

some : (now s : ℕ) → (s ≡ 0 → ⊥) → start_noted now s ≡ s
some now zero n = absurd (n refl)
some now (suc s) n = refl

pub returns-then-start-eq0 : goal.returns-then-start-eq0
returns-then-start-eq0 c = rw c.if-start-eq0.true (add-one c.args.clock)

pub returns : goal.returns
returns c = sym (some c.args.clock c.args.start c.if-start-eq0.false)

-- `lines::cells::grouped` meets its contract. At the loop's head the last k places are filled. Assumes nothing.
use mathlib.Core.Path.{◌≡◌, refl, ap, ◌∙◌}
use mathlib.Core.List.{List}
use Prim.Native.Nat.{ℕ, suc, ◌-◌}
use native.Mathlib.Numerals.{add-one}
use native.Mathlib.Omega.{arith}
use lib.ListN.{set}
use Rattle.lines.specs.Cells.{byte_of, rest_of, filled, rest_after, grouped}
use Rattle.lines.proofs.cells.grouped.Goals as goal

turn : (n : ℕ) (l : List ℕ) (rest k b rest' : ℕ) → b ≡ byte_of k rest → rest' ≡ rest_of k rest → (l ≡ filled k n) × (rest ≡ rest_after k n)
    → (set l (25 - k) b ≡ filled (suc k) n) × (rest' ≡ rest_after (suc k) n)
unfolding filled rest_after
turn n l rest k b rest' e f (same, left) = (
  ap (λ (x : List ℕ). set x (25 - k) b) same
      ∙ ap (λ (x : ℕ). set (filled k n) (25 - k) x) (e ∙ ap (byte_of k) left),
  f ∙ ap (rest_of k) left,
)

pub loop-k-init : goal.loop-k-init
unfolding filled rest_after
loop-k-init c = (refl, refl)

pub loop-k-preserved : goal.loop-k-preserved
loop-k-preserved c =
    let v = c.loop-k in
    rw add-one (turn c.args.n v.l v.rest v.k c.byte_of.result c.rest_of-rest.result c.byte_of.ensures c.rest_of-rest.ensures v.invariant)

pub returns : goal.returns
unfolding grouped
returns c =
    let v = c.loop-k in
    v.invariant.0 ∙ ap (λ (k : ℕ). filled k c.args.n) (omega arith)

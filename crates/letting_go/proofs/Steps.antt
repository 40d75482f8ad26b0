-- A call with a clock that was admitted: it takes its step, then the clock is set. Assumes nothing.
use mathlib.Core.Path.{◌≡◌, subst}
use mathlib.Core.Bool.{true}
use mathlib.Core.List.{List}
use Prim.Native.Nat.{ℕ, ◌*◌, ◌≤◌}
use native.Mathlib.Omega.{arith}
use Rattle.model.specs.Layout.{window_of}
use Rattle.model.specs.Perform.{Answer, says, change}
use Rattle.model.specs.Refusals.{Change, at, checks, window_refusal}
use Rattle.model.specs.Window.{with_clock}
use Rattle.laws.specs.Whole.{Holds}
use Rattle.report_words.specs.Report.{releases_of}
use Rattle.letting_go.specs.Letting.{LetsGo, lets_at}

-- what the step of a change promises: at most so many entries go
abbrev pub Stepped : List ℕ → ℕ → ℕ → ℕ → List ℕ → List ℕ → Change → Type 0
Stepped ws c most k gone ws₁ x = (k ≤ most) × Holds (change x c (window_of ws)).window ws₁ × (releases_of k gone ≡ (change x c (window_of ws)).gone)

module _ (x : Change) (ws : List ℕ) (room n : ℕ) (e : n ≡ window_refusal (checks x) ws room) (z : n ≡ 0) (goes : (checks x).lets_go ≡ true) (c : ℕ) (m : (checks x).moment ≡ at c) where
  pub lets_step : (size most : ℕ) → size ≡ 9 * most → most ≤ 256 → {y : Change} → y ≡ x → (k : ℕ) (gone ws₁ ws₂ : List ℕ) (a : Answer) → Stepped ws c most k gone ws₁ y
      → ((a ≡ says k (change x c (window_of ws)).values) × Holds (with_clock c (window_of ws₁)) ws₂) → LetsGo size x ws room a ws₂ gone
  lets_step size most fit few q k gone ws₁ ws₂ a s t =
      let p = subst (Stepped ws c most k gone ws₁) q s in
      lets_at size x ws room n e z goes k gone (omega (arith, p.0)) (omega (arith, p.0)) c m ws₁ ws₂ p.1 t.1 p.2 a t.0

-- Steps on words one after another. Assumes nothing.
use Rattle.std.specs.Prelude.{◌≡◌, List, ℕ}
use Rattle.std.proofs.Common.{subst}
use Rattle.model.specs.Layout.{window_of}
use Rattle.model.specs.Window.{Window}
use Rattle.laws.specs.Whole.{Holds}

-- THE ROW: a step on the window that the words hold after another
pub then : {v : Window} {ws₁ ws₂ : List ℕ} (f : Window → Window) → Holds v ws₁ → Holds (f (window_of ws₁)) ws₂ → Holds (f v) ws₂
then {ws₂ = ws₂} f h k = subst (λ (u : Window). Holds (f u) ws₂) h.is k

-- a step by a value that the code worked out
pub by_value : {A : Type 0} {x y : A} {ws : List ℕ} (f : A → Window) → x ≡ y → Holds (f x) ws → Holds (f y) ws
by_value {ws = ws} f e k = subst (λ a. Holds (f a) ws) e k

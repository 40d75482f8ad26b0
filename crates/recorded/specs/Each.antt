-- Each word of a list made anew, from its place and itself. Definitions only.
use Rattle.std.specs.Prelude.{ℕ, suc, List, [], ◌∷◌}

-- the first word's place is i
abbrev pub each_from : (ℕ → ℕ → ℕ) → ℕ → List ℕ → List ℕ
each_from f i [] = []
each_from f i (w ∷ ws) = f i w ∷ each_from f (suc i) ws

unfoldable pub each : (ℕ → ℕ → ℕ) → List ℕ → List ℕ
each f ws = each_from f 0 ws

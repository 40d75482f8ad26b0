-- The library's test of a whole list is the model's. Assumes nothing.
use Rattle.std.proofs.Common.{◌≡◌, ℕ, List, [], ◌∷◌, refl, ap}
use mathlib.Core.Bool.{Bool, ◌&&◌}
use Rattle.std.specs.List.{list_all}
use Rattle.model.specs.Lists.{all}
use Rattle.model.specs.Refusals.{seat_ok}

pub all_seats : (l : List ℕ) → list_all seat_ok l ≡ all seat_ok l
unfolding all
all_seats [] = refl
all_seats (x ∷ l) = ap (λ (b : Bool). seat_ok x && b) (all_seats l)

-- What a query's answer says, and a seat's range. Assumes nothing.
use Rattle.std.specs.Prelude.{◌≡◌, refl, Bool, true, [], ◌∷◌, ℕ, zero, suc, ◌<◌, ◌-◌, leb, Option, None, Some}
use Rattle.std.proofs.Common.{ap, arith}
use Rattle.model.specs.Queries.{flag, perhaps, capacity_values}
use Rattle.model.specs.Perform.{Answer, says}
use Rattle.model.specs.Says.{perhaps_pair_answer}
use Rattle.capacity.specs.OnNumbers.{batch_says}
use Rattle.laws.specs.Kept.{seat_le}

pub a_seat : (s : ℕ) → leb s 255 ≡ true → s < 256
a_seat s e = omega (arith, seat_le s e)

-- an answer of one number, of yes or no, and of two numbers
abbrev pub number : ℕ → Answer
number x = says 0 (x ∷ [])

abbrev pub truth : Bool → Answer
truth t = says 0 (flag t)

abbrev pub pair : ℕ → ℕ → Answer
pair x y = says 0 (x ∷ y ∷ [])

-- a batch, where there is one
pub batch_told : (b : Option (ℕ × ℕ)) → perhaps_pair_answer b ≡ says 0 (capacity_values (batch_says b))
batch_told None = refl
batch_told (Some p) = refl

-- a stored number stands one higher
pub stored : (x : ℕ) → (x ≡ 0 → ⊥) → number (x - 1) ≡ says 0 (perhaps x)
stored zero h = absurd (h refl)
stored (suc n) h =
    let e : suc n - 1 ≡ n = omega arith in
    ap number e

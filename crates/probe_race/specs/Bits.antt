-- A racer's progress byte in the code's numbers. Assumes nothing.
use Rattle.std.specs.Prelude.{◌≡◌, Bool, false, ℕ, zero, suc, ◌+◌, ◌-◌, ◌*◌, ◌%◌, ◌^◌, ◌≤◌, ◌<◌}
use Rattle.std.proofs.Common.{sym, ap, ◌∙◌, arith}
use Rattle.std.proofs.Math.Nat.{pow-le-pow_right}
use Rattle.std.specs.Int.Bits.{bit_or}
use Rattle.std.proofs.lemmas.Nat.{or_lt}
use Rattle.model.specs.Races.{all_four, progressed, has_won}

bit_lt : (i : ℕ) → i < 8 → 2 ^ i < 256
bit_lt i h = let b : 2 ^ i ≤ 128 = pow-le-pow_right {n = 2} (omega arith) {i = i} {j = 7} (omega arith) in omega arith

-- a bit of a byte does not leave its word
pub bit_is : (i : ℕ) → i < 8 → ((1 * 2 ^ i) % 18446744073709551616 ≡ 2 ^ i) × ((1 * 2 ^ i) % 18446744073709551616 < 256)
bit_is i h = let b = bit_lt i h in (omega arith, omega arith)

pub or_byte : (p bit : ℕ) → p ≤ 255 → bit < 256 → bit_or p bit ≤ 255
or_byte p bit h k = let b = or_lt 8 p bit (omega arith) k in omega arith

pub not_won : (r : ℕ) → r ≡ 0 → false ≡ has_won r
not_won r e = sym (ap has_won e)

pub won_by : (r : ℕ) (b : Bool) → 1 ≤ r → b ≡ all_four (r - 1) → b ≡ has_won r
won_by zero b h e = absurd (omega arith)
won_by (suc p) b h e = let q : suc p - 1 ≡ p = omega arith in e ∙ ap all_four q

pub not_progressed : (i r : ℕ) → r ≡ 0 → 0 ≡ progressed i r
not_progressed i r e = sym (ap (progressed i) e)

pub progressed_by : (i bit r : ℕ) → 1 ≤ r → bit ≡ 2 ^ i → bit_or (r - 1) bit + 1 ≡ progressed i r
progressed_by i bit zero h e = absurd (omega arith)
progressed_by i bit (suc p) h e =
    let q : suc p - 1 ≡ p = omega arith in
    let o : bit_or (suc p - 1) bit ≡ bit_or p (2 ^ i) = λ j. bit_or (q j) (e j) in
    omega arith

pub progressed_le : (i r : ℕ) → i < 8 → r ≤ 256 → progressed i r ≤ 256
progressed_le i zero h k = omega arith
progressed_le i (suc p) h k = omega (arith, or_byte p (2 ^ i) (omega arith) (bit_lt i h))

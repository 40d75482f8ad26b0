-- Sums that stop at the top of 64 bits are those of the library. Assumes nothing.
use mathlib.Core.Path.{◌≡◌}
use Prim.Native.Nat.{ℕ, zero, suc, ◌+◌, ◌*◌, ◌≤◌, min}
use native.Mathlib.Nat.{mul-suc, mul-zero}
use native.Mathlib.Omega.{arith}
use Rattle.ledger.specs.Book.{added}

-- the same number added n times is a product
pub added_is : (a by n : ℕ) → a ≤ 18446744073709551615 → min (a + min (by * n) 18446744073709551615) 18446744073709551615 ≡ added a by n
unfolding added
added_is a by zero h = omega (arith, mul-zero by)
added_is a by (suc n) h = omega (arith, mul-suc by n, added_is a by n h)

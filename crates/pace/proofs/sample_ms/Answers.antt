-- `pace::sample_ms` meets its contract. Assumes nothing.
use mathlib.Core.Path.{ap}
use Prim.Native.Nat.{ℕ, ◌/◌}
use Rattle.model.specs.Pace.{sample_ms}
use Rattle.pace.proofs.sample_ms.Goals as goal

pub returns : goal.returns
unfolding sample_ms
returns c = ap (λ (n : ℕ). n / 1000000) c.age.ensures

-- `time::owner_timeout` meets its contract. Assumes nothing.
use mathlib.Core.Path.{ap}
use Prim.Native.Nat.{ℕ, ◌+◌, ◌*◌, ◌/◌}
use Rattle.model.specs.Time.{owner_timeout}
use Rattle.time.proofs.owner_timeout.Goals as goal

pub returns : goal.returns
unfolding owner_timeout
returns c = ap (λ (n : ℕ). c.args.spacing * (2 + n) / 2) c.saturating_sub-others.ensures

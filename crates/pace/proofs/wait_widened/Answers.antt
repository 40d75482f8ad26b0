-- `pace::wait_widened` meets its contract. Assumes nothing.
use native.Mathlib.Omega.{arith}
use Rattle.model.specs.Numbers.{max_duration}
use Rattle.model.specs.Pace.{wait_widened}
use Rattle.pace.specs.Stored.{effective_stall_timeout_le}
use Rattle.pace.proofs.wait_widened.Goals as goal

pub overflow_mul-force : goal.overflow_mul-force
overflow_mul-force c =
    let start = c in
    omega (arith, c.effective_stall_timeout-force.ensures, effective_stall_timeout_le start.args.b start.args.p max_duration start.requires.1 start.requires.2)

pub returns : goal.returns
unfolding wait_widened
returns c = cc

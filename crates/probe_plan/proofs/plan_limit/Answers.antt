-- `probe_plan::plan_limit` meets its contract. Assumes nothing.
use Prim.Native.Nat.{◌/◌}
use Rattle.model.specs.Races.{plan_limit}
use Rattle.laws.specs.Numbers.{lesser_le_second}
use Rattle.probe_plan.proofs.plan_limit.Goals as goal

pub returns : goal.returns
unfolding plan_limit
returns c = (c.lesser.ensures, rw c.lesser.ensures (lesser_le_second (2097152 / c.args.mean) 8))

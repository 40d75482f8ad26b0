-- `queries::stall_decay_floor` meets its contract. Assumes nothing.
use mathlib.Core.Path.{ap, ◌∙◌}
use native.Mathlib.Omega.{arith}
use Rattle.model.specs.Pace.{stall_decay_floor}
use Rattle.model.specs.declared.Pace.{Pace}
use Rattle.queries.proofs.stall_decay_floor.Goals as goal

pub stall_decay_floor-requires : goal.stall_decay_floor-requires
stall_decay_floor-requires c = omega (arith, ap (λ (p : Pace). p.mean) c.get_pace-p.ensures, c.requires)

pub returns : goal.returns
returns c = c.stall_decay_floor.ensures ∙ (λ i. stall_decay_floor (c.get_settings-b.ensures i) (c.get_pace-p.ensures i))

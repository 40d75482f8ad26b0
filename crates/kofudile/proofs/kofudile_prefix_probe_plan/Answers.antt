-- `kofudile::kofudile_prefix_probe_plan` meets its contract. Assumes nothing.
use mathlib.Core.Path.{ap, ◌∙◌}
use Rattle.flat.specs.Plans.{answer_flat}
use Rattle.flat.specs.Flat.{plan_flat}
use Rattle.kofudile.proofs.kofudile_prefix_probe_plan.Goals as goal

pub returns : goal.returns
returns c =
    let r = c.prefix_probe_plan in
    c.of_plan.ensures ∙ answer_flat r.result r.ensures.1 ∙ ap plan_flat r.ensures.0

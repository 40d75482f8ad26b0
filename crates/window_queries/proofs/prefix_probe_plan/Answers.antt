-- `window_queries::prefix_probe_plan` meets its contract. Assumes nothing.
use mathlib.Core.Path.{refl}
use Rattle.model.specs.Lists.{pad}
use Rattle.model.specs.Queries.{reads, probe_plan}
use Rattle.laws.specs.Pending.{sound_ranged}
use Rattle.refusals.specs.Arrays.{admitted_in, query_told_in}
use Rattle.refusals.specs.Outcomes.{query_refused}
use Rattle.refusals.specs.Passed.{number_some}
use Rattle.window_queries.proofs.prefix_probe_plan.Goals as goal

pub returns-in-Err : goal.returns-in-Err
unfolding pad
returns-in-Err c = (query_refused _ _ _ c.in-Err.ensures.refusal (number_some c.in-Err.r), refl)

pub prefix_probe_plan-requires : goal.prefix_probe_plan-requires
prefix_probe_plan-requires c =
    let g = admitted_in _ _ c.in-Ok.ensures.same _ 0 c.in-Ok.ensures.refusal in
    (g.whole, (sound_ranged _ _ g.sound, g.sound.mean_least))

pub returns-in-Ok : goal.returns-in-Ok
returns-in-Ok c =
    let r = c.prefix_probe_plan.ensures in
    (query_told_in _ _ c.in-Ok.ensures.same (reads probe_plan) _ c.in-Ok.ensures.refusal r.0, r.1)

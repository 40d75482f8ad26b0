-- `probe_hashes::prefix_probe_plan` meets its contract. Assumes nothing.
use Rattle.std.specs.Prelude.{Ok}
use mathlib.Core.Path.{ap, ◌∙◌}
use Rattle.model.specs.Layout.{window_of}
use Rattle.model.specs.Races.{prefix_probe_plan}
use Rattle.probe_plan.specs.Plans.{header_planned}
use Rattle.probe_hashes.specs.Rows.{plan_said}
use Rattle.plans.specs.Rows.{rows_words}
use Rattle.probe_hashes.proofs.prefix_probe_plan.Goals as goal

pub returns : goal.returns
unfolding rows_words
returns c =
    let w = window_of c.args.words.now in
    let p = c.make_plan-p in
    plan_said _ (prefix_probe_plan w) (ap Ok (c.header_of.ensures ∙ header_planned p.result w p.ensures)) (c.planned_list.ensures ∙ c.plan_hashes-rows.ensures)

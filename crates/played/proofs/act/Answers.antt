-- `played::act` meets its contract. Assumes nothing.
use mathlib.Core.Path.{◌∙◌, sym}
use Rattle.played.specs.Steps.{kept}
use Rattle.played.specs.Told.{turns_making, turns_planning}
use Rattle.played.proofs.act.Goals as goal

pub returns-then-plans : goal.returns-then-plans
returns-then-plans c =
    let a = c.args in
    turns_planning a.s (kept a.p a.hashes.now a.heights.now a.staged.now) a.b _ _ _ _ _ (sym c.plans.ensures ∙ c.if-plans.true) c.propose.ensures

pub returns : goal.returns
returns c =
    let a = c.args in
    turns_making a.s (kept a.p a.hashes.now a.heights.now a.staged.now) a.b _ _ _ _ c.make-d.ensures (sym c.plans.ensures ∙ c.if-plans.false)

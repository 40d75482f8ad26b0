-- `state_races::set_plan` meets its contract. Assumes nothing.
use mathlib.Core.Path.{ap, ◌∙◌}
use native.Mathlib.Omega.{arith}
use Rattle.model.specs.Layout.{window_of, probe_words}
use Rattle.laws.specs.Tables.{with_words}
use Rattle.laws.specs.Whole.{lifted, words_shaped}
use Rattle.state_races.specs.Hedges.{planned_in, plan_count}
use Rattle.state_races.proofs.set_plan.Goals as goal

pub returns : goal.returns
returns c =
    let start = c in
    let ws = start.args.words.now in
    let whole = start.requires.0 in
    let x = start.args.x in
    let n = start.args.n in
    let l = start.args.list.now in
    let p = start.requires.1.1 in
    let w = window_of ws in
    let s = words_shaped ws whole.long in
    lifted ws _ (λ t. with_words 65 l (with_words 61 (probe_words x n) t)) _ whole (omega arith) (c.store_at.ensures ∙ ap (with_words 65 l) c.store_probe.ensures)
    (planned_in n l p w s x) (record { few = s.few; starts = s.starts; bodies = s.bodies; keys = s.keys; cooling = s.cooling; racers = s.racers; hedged = s.hedged; planned = omega (arith, plan_count n l p, p.few) })

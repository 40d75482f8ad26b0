-- `state_races::set_racer` meets its contract. Assumes nothing.
use native.Mathlib.Omega.{arith}
use mathlib.Core.Path.{◌∙◌}
use lib.ListN.{set, length-set}
use Rattle.model.specs.Layout.{window_of, table}
use Rattle.laws.specs.Tables.{with_racers}
use Rattle.laws.specs.Whole.{lifted, words_shaped}
use Rattle.laws.specs.Groups.{racers_in}
use Rattle.state_races.proofs.set_racer.Goals as goal

pub returns : goal.returns
unfolding table
returns c =
    let start = c in
    let ws = start.args.words.now in
    let whole = start.requires.0 in
    lifted ws _ (λ t. with_racers (set t.racers start.args.seat start.args.racer) t) _ whole (omega arith) c.set_racer.ensures (racers_in (window_of ws) _) ((let s = words_shaped ws whole.long in record { few = s.few; starts = s.starts; bodies = s.bodies; keys = s.keys; cooling = s.cooling; racers = length-set (window_of ws).races.racers start.args.seat start.args.racer ∙ s.racers; hedged = s.hedged; planned = s.planned }))

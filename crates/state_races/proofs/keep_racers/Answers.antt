-- `state_races::keep_racers` meets its contract. Assumes nothing.
use native.Mathlib.Omega.{arith}
use mathlib.Core.Path.{◌∙◌}
use Rattle.model.specs.Seats.{keep_seats}
use Rattle.model.specs.LettingGo.{flagged}
use Rattle.laws.specs.Parts.{length_keep}
use Rattle.model.specs.Layout.{window_of, table}
use Rattle.laws.specs.Tables.{with_racers}
use Rattle.laws.specs.Whole.{lifted, words_shaped}
use Rattle.laws.specs.Groups.{racers_in}
use Rattle.state_races.proofs.keep_racers.Goals as goal

pub returns : goal.returns
unfolding table
returns c =
    let start = c in
    let ws = start.args.words.now in
    let whole = start.requires in
    lifted ws _ (λ t. with_racers (keep_seats (flagged start.args.flags.now) 0 t.racers) t) _ whole (omega arith) c.keep_racers.ensures (racers_in (window_of ws) _) ((let s = words_shaped ws whole.long in record { few = s.few; starts = s.starts; bodies = s.bodies; keys = s.keys; cooling = s.cooling; racers = length_keep (flagged start.args.flags.now) 0 (window_of ws).races.racers ∙ s.racers; hedged = s.hedged; planned = s.planned }))

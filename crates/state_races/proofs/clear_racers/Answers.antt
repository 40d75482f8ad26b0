-- `state_races::clear_racers` meets its contract. Assumes nothing.
use native.Mathlib.Omega.{arith}
use Prim.Native.Nat.{ℕ}
use lib.ListN.{length-replicate}
use Rattle.model.specs.Window.{no_seats}
use Rattle.model.specs.Layout.{window_of}
use Rattle.laws.specs.Tables.{with_racers}
use Rattle.laws.specs.Whole.{lifted, words_shaped}
use Rattle.laws.specs.Groups.{racers_in}
use Rattle.state_races.proofs.clear_racers.Goals as goal

pub returns : goal.returns
returns c =
    let start = c in
    let ws = start.args.words.now in
    let whole = start.requires in
    lifted ws _ (with_racers no_seats) _ whole (omega arith) c.clear_racers.ensures (racers_in (window_of ws) no_seats) ((let s = words_shaped ws whole.long in record { few = s.few; starts = s.starts; bodies = s.bodies; keys = s.keys; cooling = s.cooling; racers = length-replicate {A = ℕ} 256 0; hedged = s.hedged; planned = s.planned }))

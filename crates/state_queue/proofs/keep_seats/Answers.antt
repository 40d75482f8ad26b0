-- `state_queue::keep_seats` meets its contract. Assumes nothing.
use native.Mathlib.Omega.{arith}
use Rattle.model.specs.Layout.{window_of}
use Rattle.model.specs.LettingGo.{flagged}
use Rattle.laws.specs.Parts.{length_keep}
use Rattle.laws.specs.Tables.{kept_seats}
use Rattle.state_queue.specs.Steps.{seated, kept_seats_in}
use Rattle.state_queue.proofs.keep_seats.Goals as goal

pub returns : goal.returns
returns c =
    let ws = c.args.words.now in
    let whole = c.requires in
    let fs = c.args.flags.now in
    seated ws whole _ (kept_seats fs) _ _ (omega arith) c.keep_seats.ensures (kept_seats_in (window_of ws) fs)
    (length_keep (flagged fs) 0 (window_of ws).queue.starts) (length_keep (flagged fs) 0 (window_of ws).queue.bodies)

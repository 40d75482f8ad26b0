-- `state_queue::reset_owner_queue_start` meets its contract. Assumes nothing.
use native.Mathlib.Omega.{arith}
use mathlib.Core.Path.{◌∙◌}
use lib.ListN.{length-set}
use Rattle.model.specs.Layout.{window_of}
use Rattle.model.specs.Seats.{reset_owner_queue_start}
use Rattle.records.specs.Places.{stored}
use Rattle.laws.specs.Tables.{seat_reset}
use Rattle.state_queue.specs.Steps.{seated, reset_in, start_is}
use Rattle.state_queue.proofs.reset_owner_queue_start.Goals as goal

pub returns : goal.returns
unfolding reset_owner_queue_start
returns c =
    let reset = c.reset_owner_queue_start in
    let at_left = c in
    let at_floor = at_left in
    let at-start = at_floor in
    let s = at-start in
    let ws = s.args.words.now in
    let a = s.args in
    let left = at_left.oldest_from-left in
    seated ws s.requires.0 _ (seat_reset a.owner a.removed a.clock (stored left.result)) _ _ (omega arith) reset.ensures
    (reset_in (window_of ws) a.owner a.removed a.clock at-start.start_of-start.result at_floor.start_floor-floor.result (stored left.result)
    (at-start.start_of-start.ensures ∙ start_is ws a.owner) at_floor.start_floor-floor.ensures left.ensures)
    (length-set (window_of ws).queue.starts a.owner _) (length-set (window_of ws).queue.bodies a.owner _)

-- `window_queries::owner_queue_start` meets its contract. Assumes nothing.
use mathlib.Core.Path.{ap, ◌∙◌}
use Rattle.model.specs.Queries.{perhaps}
use Rattle.model.specs.Perform.{says}
use Rattle.refusals.specs.Arrays.{admitted_in, query_told_in}
use Rattle.refusals.specs.Passed.{query_passed}
use Rattle.window_queries.specs.Asks.{a_seat}
use Rattle.window_queries.proofs.owner_queue_start.Goals as goal

pub returns-in_err-words : goal.returns-in_err-words
returns-in_err-words c = query_passed _ _ c.from_residual.ensures.1 _ _ _ c.in_err-words.ensures.refusal

pub start_of-t-requires : goal.start_of-t-requires
start_of-t-requires c =
    let g = admitted_in _ _ c.in_ok-words.ensures.same _ 0 c.in_ok-words.ensures.refusal in
    a_seat _ g.passes.peers

pub returns : goal.returns
returns c = query_told_in _ _ c.in_ok-words.ensures.same _ _ c.in_ok-words.ensures.refusal (ap (says 0) (c.perhaps_stored.ensures ∙ ap perhaps c.start_of-t.ensures))

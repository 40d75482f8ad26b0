-- `window_queries::is_downloading` meets its contract. Assumes nothing.
use mathlib.Core.Path.{ap}
use Rattle.refusals.specs.Arrays.{admitted_in, query_told_in}
use Rattle.refusals.specs.Passed.{query_passed}
use Rattle.window_queries.specs.Asks.{a_seat, truth}
use Rattle.window_queries.proofs.is_downloading.Goals as goal

pub returns-in_err-words : goal.returns-in_err-words
returns-in_err-words c = query_passed _ _ c.from_residual.ensures.1 _ _ _ c.in_err-words.ensures.refusal

pub is_downloading-requires : goal.is_downloading-requires
is_downloading-requires c =
    let g = admitted_in _ _ c.in_ok-words.ensures.same _ 0 c.in_ok-words.ensures.refusal in
    a_seat _ g.passes.peers

pub returns : goal.returns
returns c = query_told_in _ _ c.in_ok-words.ensures.same _ _ c.in_ok-words.ensures.refusal (ap truth c.is_downloading.ensures)

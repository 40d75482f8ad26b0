-- `window_queries::contains_pending` meets its contract. Assumes nothing.
use mathlib.Core.Path.{ap}
use Rattle.laws.specs.Whole.{sound_rises}
use Rattle.refusals.specs.Arrays.{admitted_in, query_told_in}
use Rattle.refusals.specs.Passed.{query_passed}
use Rattle.window_queries.specs.Asks.{truth}
use Rattle.window_queries.proofs.contains_pending.Goals as goal

pub returns-in_err-words : goal.returns-in_err-words
returns-in_err-words c = query_passed _ _ c.from_residual.ensures.1 _ _ _ c.in_err-words.ensures.refusal

pub contains_pending-requires : goal.contains_pending-requires
contains_pending-requires c =
    let g = admitted_in _ _ c.in_ok-words.ensures.same _ 0 c.in_ok-words.ensures.refusal in
    (g.whole, sound_rises _ _ g.sound)

pub returns : goal.returns
returns c = query_told_in _ _ c.in_ok-words.ensures.same _ _ c.in_ok-words.ensures.refusal (ap truth c.contains_pending.ensures)

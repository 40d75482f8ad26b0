-- `window_queries::has_request_capacity` meets its contract. Assumes nothing.
use mathlib.Core.Path.{ap}
use Rattle.refusals.specs.Arrays.{admitted_in, query_told_in}
use Rattle.refusals.specs.Passed.{query_passed}
use Rattle.window_queries.specs.Asks.{truth}
use Rattle.window_queries.proofs.has_request_capacity.Goals as goal

pub returns-in_err-words : goal.returns-in_err-words
returns-in_err-words c = query_passed _ _ c.from_residual.ensures.1 _ _ _ c.in_err-words.ensures.refusal

pub has_request_capacity-requires : goal.has_request_capacity-requires
has_request_capacity-requires c = (admitted_in _ _ c.in_ok-words.ensures.same _ 0 c.in_ok-words.ensures.refusal).whole

pub returns : goal.returns
returns c = query_told_in _ _ c.in_ok-words.ensures.same _ _ c.in_ok-words.ensures.refusal (ap truth c.has_request_capacity.ensures)

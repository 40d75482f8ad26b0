-- `window_queries::compute_request_capacity` meets its contract. Assumes nothing.
use mathlib.Core.Path.{ap, ◌∙◌}
use Rattle.model.specs.Capacity.{Capacity}
use Rattle.model.specs.Queries.{capacity_values}
use Rattle.model.specs.Perform.{says}
use Rattle.refusals.specs.Arrays.{admitted_in, query_told_in}
use Rattle.refusals.specs.Passed.{query_passed}
use Rattle.window_queries.specs.Asks.{batch_told}
use Rattle.window_queries.proofs.compute_request_capacity.Goals as goal

pub returns-in_err-words : goal.returns-in_err-words
returns-in_err-words c = query_passed _ _ c.from_residual.ensures.1 _ _ _ c.in_err-words.ensures.refusal

pub compute_request_capacity-requires : goal.compute_request_capacity-requires
compute_request_capacity-requires c = (admitted_in _ _ c.in_ok-words.ensures.same _ 0 c.in_ok-words.ensures.refusal).whole

pub returns : goal.returns
returns c = query_told_in _ _ c.in_ok-words.ensures.same _ _ c.in_ok-words.ensures.refusal (batch_told _ ∙ ap (λ (k : Capacity). says 0 (capacity_values k)) c.compute_request_capacity.ensures)

-- `window_queries::front_interval_ewma_ms` meets its contract. Assumes nothing.
use mathlib.Core.Path.{ap, ◌∙◌}
use Rattle.model.specs.Queries.{perhaps}
use Rattle.model.specs.Perform.{says}
use Rattle.model.specs.declared.Pace.{Pace}
use Rattle.refusals.specs.Arrays.{query_told_in}
use Rattle.refusals.specs.Passed.{query_passed}
use Rattle.window_queries.proofs.front_interval_ewma_ms.Goals as goal

pub returns-in_err-words : goal.returns-in_err-words
returns-in_err-words c = query_passed _ _ c.from_residual.ensures.1 _ _ _ c.in_err-words.ensures.refusal

pub returns : goal.returns
returns c = query_told_in _ _ c.in_ok-words.ensures.same _ _ c.in_ok-words.ensures.refusal (ap (says 0) (c.perhaps_stored.ensures ∙ ap (λ (p : Pace). perhaps p.mean) c.get_pace-p.ensures))

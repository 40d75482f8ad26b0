-- `window_queries::active_prefix_probe_started_at` meets its contract. Assumes nothing.
use mathlib.Core.Path.{ap, ◌∙◌}
use Rattle.model.specs.Queries.{probe_values}
use Rattle.model.specs.Perform.{says}
use Rattle.refusals.specs.Arrays.{query_told_in}
use Rattle.refusals.specs.Passed.{query_passed}
use Rattle.window_queries.proofs.active_prefix_probe_started_at.Goals as goal

pub returns-in_err-words : goal.returns-in_err-words
returns-in_err-words c = query_passed _ _ c.from_residual.ensures.1 _ _ _ c.in_err-words.ensures.refusal

pub returns : goal.returns
returns c = query_told_in _ _ c.in_ok-words.ensures.same _ _ c.in_ok-words.ensures.refusal (ap (says 0) (c.started_of.ensures ∙ ap probe_values c.get_probe.ensures))

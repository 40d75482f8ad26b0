-- `window_queries::preferred_peer` meets its contract. Assumes nothing.
use Rattle.std.specs.Prelude.{Option, ℕ}
use mathlib.Core.Path.{ap}
use Rattle.model.specs.Queries.{source_values}
use Rattle.model.specs.Perform.{says}
use Rattle.refusals.specs.Arrays.{query_told_in}
use Rattle.refusals.specs.Passed.{query_passed}
use Rattle.window_queries.proofs.preferred_peer.Goals as goal

pub returns-in_err-words : goal.returns-in_err-words
returns-in_err-words c = query_passed _ _ c.from_residual.ensures.1 _ _ _ c.in_err-words.ensures.refusal

pub returns : goal.returns
returns c = query_told_in _ _ c.in_ok-words.ensures.same _ _ c.in_ok-words.ensures.refusal (ap (λ (s : Option ℕ). says 0 (source_values s)) c.get_preferred.ensures)

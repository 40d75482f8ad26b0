-- `window_queries::pending_len` meets its contract. Assumes nothing.
use mathlib.Core.Path.{ap}
use Rattle.refusals.specs.Arrays.{admitted_in, query_told_in}
use Rattle.refusals.specs.Passed.{query_passed}
use Rattle.model.specs.Says.{number_answer}
use Rattle.window_queries.proofs.pending_len.Goals as goal

pub returns-in_err-words : goal.returns-in_err-words
returns-in_err-words c = query_passed _ _ c.from_residual.ensures.1 _ _ _ c.in_err-words.ensures.refusal

pub pending_count-requires : goal.pending_count-requires
pending_count-requires c = (admitted_in _ _ c.in_ok-words.ensures.same _ 0 c.in_ok-words.ensures.refusal).whole

pub returns : goal.returns
returns c = query_told_in _ _ c.in_ok-words.ensures.same _ _ c.in_ok-words.ensures.refusal (ap number_answer c.pending_count.ensures.0)

-- `window_queries::ewma_block_bytes` meets its contract. Assumes nothing.
use mathlib.Core.Path.{ap}
use Rattle.refusals.specs.Arrays.{query_told_in}
use Rattle.refusals.specs.Passed.{query_passed}
use Rattle.window_queries.specs.Asks.{number}
use Rattle.window_queries.proofs.ewma_block_bytes.Goals as goal

pub returns-in_err-words : goal.returns-in_err-words
returns-in_err-words c = query_passed _ _ c.from_residual.ensures.1 _ _ _ c.in_err-words.ensures.refusal

pub returns : goal.returns
returns c = query_told_in _ _ c.in_ok-words.ensures.same _ _ c.in_ok-words.ensures.refusal (ap number c.get_mean.ensures)

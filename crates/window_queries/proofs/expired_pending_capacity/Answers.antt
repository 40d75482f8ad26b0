-- `window_queries::expired_pending_capacity` meets its contract. Assumes nothing.
use Rattle.model.specs.Numbers.{read_clock}
use Rattle.refusals.specs.Arrays.{admitted_in, query_told_in}
use Rattle.refusals.specs.Passed.{query_passed}
use Rattle.window_queries.specs.Asks.{pair}
use Rattle.window_queries.proofs.expired_pending_capacity.Goals as goal

pub returns-in_err-words : goal.returns-in_err-words
returns-in_err-words c = query_passed _ _ c.from_residual.ensures.1 _ _ _ c.in_err-words.ensures.refusal

pub expired_pending_capacity-f-requires : goal.expired_pending_capacity-f-requires
unfolding read_clock
expired_pending_capacity-f-requires c =
    let g = admitted_in _ _ c.in_ok-words.ensures.same _ 0 c.in_ok-words.ensures.refusal in
    (g.whole, g.sound_at)

pub returns : goal.returns
unfolding read_clock
returns c = query_told_in _ _ c.in_ok-words.ensures.same _ _ c.in_ok-words.ensures.refusal (λ i. pair (c.expired_pending_capacity-f.ensures.0 i) (c.expired_pending_capacity-f.ensures.1 i))

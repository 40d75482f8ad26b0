-- `window_queries::stalling_peer` meets its contract. Assumes nothing.
use Rattle.refusals.specs.Arrays.{admitted_in, query_told_in}
use Rattle.refusals.specs.Passed.{query_passed}
use Rattle.window_queries.specs.Seated.{staller_seated}
use Rattle.window_queries.proofs.stalling_peer.Goals as goal

pub returns-in_err-words : goal.returns-in_err-words
returns-in_err-words c = query_passed _ _ c.from_residual.ensures.1 _ _ _ c.in_err-words.ensures.refusal

pub stalling_peer-requires : goal.stalling_peer-requires
stalling_peer-requires c =
    let g = admitted_in _ _ c.in_ok-words.ensures.same _ 0 c.in_ok-words.ensures.refusal in
    staller_seated g.sound

pub returns : goal.returns
returns c = query_told_in _ _ c.in_ok-words.ensures.same _ _ c.in_ok-words.ensures.refusal c.stalling_peer.ensures

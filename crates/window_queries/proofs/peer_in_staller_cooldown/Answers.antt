-- `window_queries::peer_in_staller_cooldown` meets its contract. Assumes nothing.
use mathlib.Core.Path.{ap}
use Rattle.model.specs.Numbers.{read_clock}
use Rattle.model.specs.Cooling.{key_of}
use Rattle.refusals.specs.Arrays.{admitted_in, query_told_in}
use Rattle.refusals.specs.Passed.{query_passed}
use Rattle.window_queries.specs.Asks.{a_seat, truth}
use Rattle.window_queries.proofs.peer_in_staller_cooldown.Goals as goal

pub returns-in_err-words : goal.returns-in_err-words
returns-in_err-words c = query_passed _ _ c.from_residual.ensures.1 _ _ _ c.in_err-words.ensures.refusal

pub in_cooldown-requires : goal.in_cooldown-requires
unfolding read_clock key_of
in_cooldown-requires c =
    let g = admitted_in _ _ c.in_ok-words.ensures.same _ 0 c.in_ok-words.ensures.refusal in
    (a_seat _ g.passes.peers, g.sound_at.clock, g.sound.keys.most _)

pub returns : goal.returns
unfolding read_clock key_of
returns c = query_told_in _ _ c.in_ok-words.ensures.same _ _ c.in_ok-words.ensures.refusal (ap truth c.in_cooldown.ensures)

-- `look_steps::blame_late` meets its contract. Assumes nothing.
use mathlib.Core.Path.{refl}
use native.Mathlib.Omega.{arith}
use Rattle.model.specs.Cooling.{mark_peer_unresponsive}
use Rattle.model.specs.Layout.{window_of}
use Rattle.look_steps.specs.Steps.{and_next, key_le, key_on}
use Rattle.look_steps.proofs.blame_late.Goals as goal

pub mark_peer_unresponsive-requires : goal.mark_peer_unresponsive-requires
mark_peer_unresponsive-requires c =
    let start = c in
    let h = c.set_observation.ensures in
    (h.whole, (omega arith, (start.requires.1.clock, key_on start.args.owner (window_of start.args.words.now) h refl (key_le start.args.owner start.requires.1))))

pub returns : goal.returns
returns c =
    let a = c.args in
    record { left = and_next (λ w. mark_peer_unresponsive a.owner a.clock w) c.set_observation.ensures c.mark_peer_unresponsive.ensures; told = refl }

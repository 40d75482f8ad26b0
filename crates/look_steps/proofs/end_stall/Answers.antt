-- `look_steps::end_stall` meets its contract. Assumes nothing.
use mathlib.Core.Path.{refl}
use Rattle.model.specs.Cooling.{mark_peer_unresponsive}
use Rattle.model.specs.Layout.{window_of}
use Rattle.model.specs.Window.{with_pace}
use Rattle.look_steps.specs.Steps.{and_next, key_on}
use Rattle.look_steps.proofs.end_stall.Goals as goal

pub mark_peer_unresponsive-requires : goal.mark_peer_unresponsive-requires
mark_peer_unresponsive-requires c =
    let start = c in
    let a = start.args in
    let h = and_next (λ w. with_pace a.widened w) c.set_stall.ensures c.set_pace.ensures in
    (h.whole, (start.requires.1, (start.requires.2, key_on a.owner (window_of a.words.now) h refl start.requires.3)))

pub returns : goal.returns
returns c =
    let a = c.args in
    let h = and_next (λ w. with_pace a.widened w) c.set_stall.ensures c.set_pace.ensures in
    and_next (λ w. mark_peer_unresponsive a.owner a.clock w) h c.mark_peer_unresponsive.ensures

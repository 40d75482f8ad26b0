-- `state_queue::was_front` meets its contract. Assumes nothing.
use mathlib.Core.Path.{ap, ◌∙◌}
use Rattle.model.specs.Pace.{was_front}
use Rattle.state_queue.specs.Steps.{live_is}
use Rattle.state_queue.proofs.was_front.Goals as goal

pub returns : goal.returns
returns c =
    let ws = c.args.words.now in
    let whole = c.requires in
    c.was_front.ensures ∙ ap (was_front c.args.height) (live_is ws whole c.pending_count-n.result c.pending_count-n.ensures.0)

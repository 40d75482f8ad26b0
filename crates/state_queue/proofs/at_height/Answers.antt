-- `state_queue::at_height` meets its contract. Assumes nothing.
use mathlib.Core.Path.{ap, ◌∙◌}
use Rattle.model.specs.Records.{at_height}
use Rattle.state_queue.specs.Steps.{live_is}
use Rattle.state_queue.proofs.at_height.Goals as goal

pub returns : goal.returns
returns c =
    let ws = c.args.words.now in
    let whole = c.requires in
    c.at_height.ensures ∙ ap (at_height c.args.height) (live_is ws whole c.pending_count-n.result c.pending_count-n.ensures.0)

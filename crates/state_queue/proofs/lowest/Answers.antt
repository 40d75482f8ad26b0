-- `state_queue::lowest` meets its contract. Assumes nothing.
use mathlib.Core.Path.{ap, ◌∙◌}
use Rattle.model.specs.Records.{lowest}
use Rattle.state_queue.specs.Steps.{live_is}
use Rattle.state_queue.proofs.lowest.Goals as goal

pub returns : goal.returns
returns c =
    let ws = c.args.words.now in
    let whole = c.requires in
    c.lowest.ensures ∙ ap (lowest) (live_is ws whole c.pending_count-n.result c.pending_count-n.ensures.0)

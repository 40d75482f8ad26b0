-- `state_queue::pending_count_for` meets its contract. Assumes nothing.
use mathlib.Core.Path.{ap, ◌∙◌}
use Rattle.model.specs.Records.{pending_count_for}
use Rattle.state_queue.specs.Steps.{live_is}
use Rattle.state_queue.proofs.pending_count_for.Goals as goal

pub returns : goal.returns
returns c =
    let ws = c.args.words.now in
    let whole = c.requires in
    c.pending_count_for.ensures ∙ ap (pending_count_for c.args.owner) (live_is ws whole c.pending_count-n.result c.pending_count-n.ensures.0)

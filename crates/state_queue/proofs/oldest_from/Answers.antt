-- `state_queue::oldest_from` meets its contract. Assumes nothing.
use mathlib.Core.Path.{ap, ◌∙◌}
use mathlib.Core.List.{List}
use Rattle.model.specs.Seats.{oldest}
use Rattle.model.specs.declared.Entry.{Entry}
use Rattle.records.specs.Places.{floored}
use Rattle.state_queue.specs.Steps.{live_is}
use Rattle.state_queue.proofs.oldest_from.Goals as goal

pub returns : goal.returns
returns c =
    let ws = c.args.words.now in
    let whole = c.requires in
    c.oldest_from.ensures ∙ ap (λ (l : List Entry). floored c.args.floor (oldest c.args.owner l)) (live_is ws whole c.pending_count-n.result c.pending_count-n.ensures.0)

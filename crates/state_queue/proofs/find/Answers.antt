-- `state_queue::find` meets its contract. Assumes nothing.
use mathlib.Core.Path.{subst}
use mathlib.Core.List.{List}
use Rattle.model.specs.declared.Entry.{Entry}
use Rattle.records.specs.Places.{Finds}
use Rattle.state_queue.specs.Steps.{live_is}
use Rattle.state_queue.proofs.find.Goals as goal

pub returns : goal.returns
returns c =
    let ws = c.args.words.now in
    let whole = c.requires in
    subst (λ (l : List Entry). Finds c.args.h l c.find.result) (live_is ws whole c.pending_count-n.result c.pending_count-n.ensures.0) c.find.ensures

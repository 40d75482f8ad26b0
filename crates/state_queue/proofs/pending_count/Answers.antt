-- `state_queue::pending_count` meets its contract. Assumes nothing.
use mathlib.Core.Path.{◌∙◌}
use native.Mathlib.Omega.{arith}
use Rattle.state_queue.specs.Steps.{count_is, few}
use Rattle.state_queue.proofs.pending_count.Goals as goal

pub returns : goal.returns
returns c =
    let ws = c.args.words.now in
    let whole = c.requires in
    let e = c.word_of.ensures ∙ count_is ws whole in
    (e, omega (arith, e, few ws whole))

-- `state_queue::entry_at` meets its contract. Assumes nothing.
use mathlib.Core.Path.{◌∙◌}
use native.Mathlib.Omega.{arith}
use Rattle.state_queue.specs.Steps.{entry_is, few}
use Rattle.state_queue.proofs.entry_at.Goals as goal

pub entry_of-requires : goal.entry_of-requires
entry_of-requires c =
    let ws = c.args.words.now in
    let whole = c.requires.0 in
    omega (arith, few ws whole, c.requires.1)

pub returns : goal.returns
returns c =
    let ws = c.args.words.now in
    let whole = c.requires.0 in
    c.entry_of.ensures ∙ entry_is ws whole c.args.i c.requires.1

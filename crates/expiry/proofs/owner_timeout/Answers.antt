-- `expiry::owner_timeout` meets its contract. Assumes nothing.
use mathlib.Core.Path.{◌∙◌}
use Rattle.model.specs.Time.{owner_timeout, effective_owner_timeout}
use Rattle.expiry.specs.Late.{active_le}
use Rattle.expiry.proofs.owner_timeout.Goals as goal

pub owner_timeout-requires : goal.owner_timeout-requires
owner_timeout-requires c =
    let start = c in
    (rw c.get_settings-b.ensures start.requires, rw c.active_peers-active.ensures (active_le start.args.words.now start.told-words))

pub returns : goal.returns
unfolding effective_owner_timeout
returns c = c.owner_timeout.ensures ∙ (λ i. owner_timeout (c.get_settings-b.ensures i).block_spacing (c.active_peers-active.ensures i))

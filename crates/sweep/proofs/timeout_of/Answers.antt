-- `sweep::timeout_of` meets its contract. Assumes nothing.
use mathlib.Core.Path.{◌∙◌}
use Rattle.model.specs.Time.{owner_timeout, effective_owner_timeout}
use Rattle.sweep.specs.Sweeps.{active_le, spacing_le}
use Rattle.sweep.proofs.timeout_of.Goals as goal

pub owner_timeout-requires : goal.owner_timeout-requires
owner_timeout-requires c =
    let a = c.args in
    (rw c.get_settings-s.ensures (spacing_le _ c.requires), rw c.active_peers-n.ensures (active_le a.words.now c.told-words))

pub returns : goal.returns
unfolding effective_owner_timeout
returns c = c.owner_timeout.ensures ∙ (λ i. owner_timeout (c.get_settings-s.ensures i).block_spacing (c.active_peers-n.ensures i))

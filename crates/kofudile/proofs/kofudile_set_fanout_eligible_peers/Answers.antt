-- `kofudile::kofudile_set_fanout_eligible_peers` meets its contract. Assumes nothing.
use mathlib.Core.Path.{ap, ◌∙◌}
use Rattle.flat.specs.Flat.{done_flat}
use Rattle.kofudile.proofs.kofudile_set_fanout_eligible_peers.Goals as goal

pub returns : goal.returns
returns c = (c.of_accepted.ensures ∙ ap done_flat c.set_fanout_eligible_peers.ensures.0, c.set_fanout_eligible_peers.ensures.1)

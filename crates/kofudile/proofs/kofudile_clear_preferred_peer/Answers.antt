-- `kofudile::kofudile_clear_preferred_peer` meets its contract. Assumes nothing.
use mathlib.Core.Path.{ap, ◌∙◌}
use Rattle.flat.specs.Flat.{done_flat}
use Rattle.kofudile.proofs.kofudile_clear_preferred_peer.Goals as goal

pub returns : goal.returns
returns c = (c.of_accepted.ensures ∙ ap done_flat c.clear_preferred_peer.ensures.0, c.clear_preferred_peer.ensures.1)

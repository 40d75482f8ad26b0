-- `kofudile::kofudile_mark_peer_unresponsive` meets its contract. Assumes nothing.
use mathlib.Core.Path.{ap, ◌∙◌}
use Rattle.flat.specs.Flat.{done_flat}
use Rattle.kofudile.proofs.kofudile_mark_peer_unresponsive.Goals as goal

pub returns : goal.returns
returns c = (c.of_accepted.ensures ∙ ap done_flat c.mark_peer_unresponsive.ensures.0, c.mark_peer_unresponsive.ensures.1)

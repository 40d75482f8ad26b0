-- `kofudile::kofudile_credit_duplicate_delivery` meets its contract. Assumes nothing.
use mathlib.Core.Path.{ap, ◌∙◌}
use Rattle.flat.specs.Flat.{done_flat}
use Rattle.kofudile.proofs.kofudile_credit_duplicate_delivery.Goals as goal

pub returns : goal.returns
returns c = (c.of_accepted.ensures ∙ ap done_flat c.credit_duplicate_delivery.ensures.0, c.credit_duplicate_delivery.ensures.1)

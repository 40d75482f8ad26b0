-- `kofudile::kofudile_mark_owned_fetch` meets its contract. Assumes nothing.
use mathlib.Core.Path.{ap, ◌∙◌}
use Rattle.flat.specs.Flat.{number_flat}
use Rattle.kofudile.proofs.kofudile_mark_owned_fetch.Goals as goal

pub returns : goal.returns
returns c = (c.of_fetch.ensures ∙ ap number_flat c.mark_owned_fetch.ensures.0, c.mark_owned_fetch.ensures.1)

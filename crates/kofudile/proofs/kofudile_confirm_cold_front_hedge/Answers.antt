-- `kofudile::kofudile_confirm_cold_front_hedge` meets its contract. Assumes nothing.
use mathlib.Core.Path.{ap, ◌∙◌}
use Rattle.flat.specs.Flat.{done_flat}
use Rattle.kofudile.proofs.kofudile_confirm_cold_front_hedge.Goals as goal

pub returns : goal.returns
returns c = (c.of_accepted.ensures ∙ ap done_flat c.confirm_cold_front_hedge.ensures.0, c.confirm_cold_front_hedge.ensures.1)

-- `kofudile::kofudile_mark_requested_words` meets its contract. Assumes nothing.
use mathlib.Core.Path.{ap, ◌∙◌}
use Rattle.flat.specs.Flat.{number_flat}
use Rattle.kofudile.proofs.kofudile_mark_requested_words.Goals as goal

pub returns : goal.returns
returns c = (c.of_truth.ensures ∙ ap number_flat c.mark_requested.ensures.0, c.mark_requested.ensures.1)

-- `kofudile::kofudile_read_getdata_words` meets its contract. Assumes nothing.
use mathlib.Core.Path.{ap, ◌∙◌}
use Rattle.flat.specs.Flat.{number_flat}
use Rattle.kofudile.proofs.kofudile_read_getdata_words.Goals as goal

pub returns : goal.returns
returns c = (c.of_number.ensures ∙ ap number_flat c.read.ensures.0, c.read.ensures.1)

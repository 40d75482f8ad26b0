-- `kofudile::kofudile_confirm_prefix_probe_words` meets its contract. Assumes nothing.
use mathlib.Core.Path.{ap, ◌∙◌}
use Rattle.flat.specs.Flat.{done_flat}
use Rattle.kofudile.proofs.kofudile_confirm_prefix_probe_words.Goals as goal

pub returns : goal.returns
returns c = (c.of_accepted.ensures ∙ ap done_flat c.confirm_prefix_probe.ensures.0, c.confirm_prefix_probe.ensures.1)

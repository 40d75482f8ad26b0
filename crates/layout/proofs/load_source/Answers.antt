-- `layout::load_source` meets its contract. Assumes nothing.
use mathlib.Core.Path.{ap, ◌∙◌}
use Rattle.model.specs.Layout.{source_of}
use Rattle.layout.proofs.load_source.Goals as goal

pub returns : goal.returns
returns c = c.source_of.ensures ∙ ap source_of c.word_of.ensures

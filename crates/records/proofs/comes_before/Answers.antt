-- `records::comes_before` meets its contract. Assumes nothing.
use mathlib.Core.Path.{ap, ◌∙◌}
use Rattle.model.specs.Hash.{less}
use Rattle.model.specs.declared.Hash.{Hash}
use Rattle.records.proofs.comes_before.Goals as goal

pub returns : goal.returns
returns c = c.less.ensures ∙ ap (λ (g : Hash). less g c.args.h) c.hash_of-g.ensures

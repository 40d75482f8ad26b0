-- `prefix_probe::height_at` meets its contract. Assumes nothing.
use mathlib.Core.Path.{ap}
use Rattle.model.specs.declared.Entry.{Entry}
use Rattle.prefix_probe.proofs.height_at.Goals as goal

pub returns : goal.returns
returns c = ap (λ (e : Entry). e.height) c.entry_at-e.ensures

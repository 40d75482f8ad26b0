-- `probe_hashes::row_at` meets its contract. Assumes nothing.
use mathlib.Core.Path.{ap}
use Rattle.model.specs.Hash.{hash_words}
use Rattle.model.specs.declared.Entry.{Entry}
use Rattle.probe_hashes.proofs.row_at.Goals as goal

pub returns : goal.returns
returns c = ap (λ (e : Entry). hash_words e.hash) c.entry_at-e.ensures

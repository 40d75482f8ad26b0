-- `records::entry_of` meets its contract. Assumes nothing.
use Rattle.records.proofs.Words.{entry_words}
use Rattle.laws.specs.Tables.{entry_decode}
use mathlib.Core.Path.{sym, ◌∙◌}
use Rattle.records.proofs.entry_of.Goals as goal

pub returns : goal.returns
returns c =
    let h = c in
    let a = h.args in
    entry_words a.i a.words.now h.hash_of-hash.result h.hash_of-hash.ensures ∙ sym (entry_decode a.i a.words.now h.requires)

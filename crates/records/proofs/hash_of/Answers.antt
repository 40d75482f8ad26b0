-- `records::hash_of` meets its contract. Assumes nothing.
use Rattle.records.proofs.Words.{hash_words}
use Rattle.records.proofs.hash_of.Goals as goal

pub returns : goal.returns
returns c =
    let a = c.args in
    hash_words a.i a.words.now

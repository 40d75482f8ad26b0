-- `layout::hash_of` meets its contract. Assumes nothing.
use mathlib.Core.Path.{sym}
use Rattle.model.specs.Hash.{hash}
use Rattle.model.specs.Layout.{hash_at}
use Rattle.laws.specs.Tables.{word_decode, word_offset}
use Rattle.layout.proofs.hash_of.Goals as goal

pub returns : goal.returns
unfolding hash_at
returns c =
    let a = c.args in
    let k = a.k in
    let ws = a.words.now in
    λ i. hash (sym (word_decode k ws) i) (word_offset k 1 ws i) (word_offset k 2 ws i) (word_offset k 3 ws i)

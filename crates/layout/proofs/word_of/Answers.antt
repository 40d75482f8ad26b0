-- `layout::word_of` meets its contract. Assumes nothing.
use mathlib.Core.Path.{sym}
use Rattle.laws.specs.Tables.{word_decode}
use Rattle.layout.proofs.word_of.Goals as goal

pub returns : goal.returns
returns c = sym (word_decode c.args.k c.args.words.now)

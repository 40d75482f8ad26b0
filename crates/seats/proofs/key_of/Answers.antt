-- `seats::key_of` meets its contract. Assumes nothing.
use mathlib.Core.Path.{sym}
use Rattle.model.specs.Layout.{decode}
use Rattle.laws.specs.Tables.{seat_word}
use Rattle.seats.proofs.key_of.Goals as goal

pub returns : goal.returns
unfolding decode
returns c = sym (seat_word 2816 c.args.seat c.args.words.now c.requires)

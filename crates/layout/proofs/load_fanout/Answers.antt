-- `layout::load_fanout` meets its contract. Assumes nothing.
use mathlib.Core.Path.{sym}
use lib.Dec.{eqb}
use Rattle.laws.specs.Tables.{word_decode}
use Rattle.layout.specs.Head.{fanout_of}
use Rattle.layout.proofs.load_fanout.Goals as goal

pub returns : goal.returns
unfolding fanout_of
returns c =
    let ws = c.args.words.now in
    λ i. record { eligible = sym (word_decode 20 ws) i; engaged = eqb (sym (word_decode 21 ws) i) 1 }

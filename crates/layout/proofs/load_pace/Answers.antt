-- `layout::load_pace` meets its contract. Assumes nothing.
use mathlib.Core.Path.{sym}
use Rattle.model.specs.Pace.{pace}
use Rattle.laws.specs.Tables.{word_decode}
use Rattle.layout.proofs.load_pace.Goals as goal

pub returns : goal.returns
returns c =
    let ws = c.args.words.now in
    λ i. pace (sym (word_decode 22 ws) i) (sym (word_decode 23 ws) i) (sym (word_decode 24 ws) i)

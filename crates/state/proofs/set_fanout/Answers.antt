-- `state::set_fanout` meets its contract. Assumes nothing.
use native.Mathlib.Omega.{arith}
use Rattle.model.specs.Layout.{window_of}
use Rattle.laws.specs.Tables.{with_words}
use Rattle.laws.specs.Whole.{lifted, words_shaped}
use Rattle.laws.specs.Groups.{fanout_in}
use Rattle.layout.specs.Head.{fanout_list}
use Rattle.state.proofs.set_fanout.Goals as goal

pub returns : goal.returns
unfolding fanout_list
returns c =
    let start = c in
    let ws = start.args.words.now in
    let whole = start.requires in
    lifted ws _ (with_words 20 (fanout_list start.args.f)) _ whole (omega arith) c.store_fanout.ensures (fanout_in (window_of ws) start.args.f) (words_shaped ws whole.long)

-- `state::set_pace` meets its contract. Assumes nothing.
use native.Mathlib.Omega.{arith}
use Rattle.model.specs.Layout.{window_of}
use Rattle.laws.specs.Tables.{with_words}
use Rattle.laws.specs.Whole.{lifted, words_shaped}
use Rattle.laws.specs.Groups.{pace_in}
use Rattle.layout.specs.Head.{pace_list}
use Rattle.state.proofs.set_pace.Goals as goal

pub returns : goal.returns
unfolding pace_list
returns c =
    let start = c in
    let ws = start.args.words.now in
    let whole = start.requires in
    lifted ws _ (with_words 22 (pace_list start.args.p)) _ whole (omega arith) c.store_pace.ensures (pace_in (window_of ws) start.args.p) (words_shaped ws whole.long)

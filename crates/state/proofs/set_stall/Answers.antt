-- `state::set_stall` meets its contract. Assumes nothing.
use native.Mathlib.Omega.{arith}
use Rattle.model.specs.Layout.{window_of, stall_words}
use Rattle.laws.specs.Tables.{with_words}
use Rattle.laws.specs.Whole.{lifted, words_shaped}
use Rattle.laws.specs.Groups.{stall_in}
use Rattle.state.proofs.set_stall.Goals as goal

pub returns : goal.returns
returns c =
    let start = c in
    let ws = start.args.words.now in
    let whole = start.requires.0 in
    lifted ws _ (with_words 27 (stall_words start.args.x)) _ whole (omega arith) c.store_stall.ensures (stall_in (window_of ws) start.args.x) (words_shaped ws whole.long)

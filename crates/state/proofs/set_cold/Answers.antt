-- `state::set_cold` meets its contract. Assumes nothing.
use native.Mathlib.Omega.{arith}
use Rattle.model.specs.Layout.{window_of, cold_words}
use Rattle.laws.specs.Tables.{with_words}
use Rattle.laws.specs.Whole.{lifted, words_shaped}
use Rattle.laws.specs.Groups.{cold_in}
use Rattle.state.proofs.set_cold.Goals as goal

pub returns : goal.returns
returns c =
    let start = c in
    let ws = start.args.words.now in
    let whole = start.requires.0 in
    lifted ws _ (with_words 39 (cold_words start.args.x)) _ whole (omega arith) c.store_cold.ensures (cold_in (window_of ws) start.args.x) (words_shaped ws whole.long)

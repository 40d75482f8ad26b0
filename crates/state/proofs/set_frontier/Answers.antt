-- `state::set_frontier` meets its contract. Assumes nothing.
use native.Mathlib.Omega.{arith}
use mathlib.Core.List.{[], ◌∷◌}
use Rattle.model.specs.Layout.{window_of}
use Rattle.laws.specs.Tables.{with_words}
use Rattle.laws.specs.Whole.{lifted, words_shaped}
use Rattle.laws.specs.Groups.{frontier_in}
use Rattle.state.proofs.set_frontier.Goals as goal

pub returns : goal.returns
returns c =
    let start = c in
    let ws = start.args.words.now in
    let whole = start.requires in
    lifted ws _ (with_words 7 (start.args.f ∷ [])) _ whole (omega arith) c.set_word.ensures (frontier_in (window_of ws) start.args.f) (words_shaped ws whole.long)

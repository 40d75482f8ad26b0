-- `state::set_attempted` meets its contract. Assumes nothing.
use native.Mathlib.Omega.{arith}
use mathlib.Core.List.{[], ◌∷◌}
use Rattle.model.specs.Layout.{window_of, source_word}
use Rattle.laws.specs.Tables.{with_words}
use Rattle.laws.specs.Whole.{lifted, words_shaped}
use Rattle.laws.specs.Groups.{attempted_in}
use Rattle.state.proofs.set_attempted.Goals as goal

pub returns : goal.returns
returns c =
    let start = c in
    let ws = start.args.words.now in
    let whole = start.requires.0 in
    lifted ws _ (with_words 26 (source_word start.args.x ∷ [])) _ whole (omega arith) c.store_source.ensures (attempted_in (window_of ws) start.args.x) (words_shaped ws whole.long)

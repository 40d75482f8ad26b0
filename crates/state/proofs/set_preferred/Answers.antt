-- `state::set_preferred` meets its contract. Assumes nothing.
use native.Mathlib.Omega.{arith}
use mathlib.Core.List.{[], ◌∷◌}
use Rattle.model.specs.Layout.{window_of, source_word}
use Rattle.laws.specs.Tables.{with_words}
use Rattle.laws.specs.Whole.{lifted, words_shaped}
use Rattle.laws.specs.Groups.{preferred_in}
use Rattle.state.proofs.set_preferred.Goals as goal

pub returns : goal.returns
returns c =
    let start = c in
    let ws = start.args.words.now in
    let whole = start.requires.0 in
    lifted ws _ (with_words 25 (source_word start.args.x ∷ [])) _ whole (omega arith) c.store_source.ensures (preferred_in (window_of ws) start.args.x) (words_shaped ws whole.long)

-- `state::set_mean` meets its contract. Assumes nothing.
use native.Mathlib.Omega.{arith}
use mathlib.Core.List.{[], ◌∷◌}
use Rattle.model.specs.Layout.{window_of}
use Rattle.laws.specs.Tables.{with_words}
use Rattle.laws.specs.Whole.{lifted, words_shaped}
use Rattle.laws.specs.Groups.{mean_in}
use Rattle.state.proofs.set_mean.Goals as goal

pub returns : goal.returns
returns c =
    let start = c in
    let ws = start.args.words.now in
    let whole = start.requires in
    lifted ws _ (with_words 6 (start.args.m ∷ [])) _ whole (omega arith) c.set_word.ensures (mean_in (window_of ws) start.args.m) (words_shaped ws whole.long)

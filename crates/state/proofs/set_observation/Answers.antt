-- `state::set_observation` meets its contract. Assumes nothing.
use native.Mathlib.Omega.{arith}
use Rattle.model.specs.Layout.{window_of, observation_words}
use Rattle.laws.specs.Tables.{with_words}
use Rattle.laws.specs.Whole.{lifted, words_shaped}
use Rattle.laws.specs.Groups.{observation_in}
use Rattle.state.proofs.set_observation.Goals as goal

pub returns : goal.returns
returns c =
    let start = c in
    let ws = start.args.words.now in
    let whole = start.requires in
    lifted ws _ (with_words 55 (observation_words start.args.x)) _ whole (omega arith) c.store_observation.ensures (observation_in (window_of ws) (words_shaped ws whole.long) start.args.x) (words_shaped ws whole.long)

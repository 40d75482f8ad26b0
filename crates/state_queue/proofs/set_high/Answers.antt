-- `state_queue::set_high` meets its contract. Assumes nothing.
use native.Mathlib.Omega.{arith}
use mathlib.Core.List.{[], ◌∷◌}
use Rattle.model.specs.Layout.{window_of}
use Rattle.laws.specs.Tables.{with_words}
use Rattle.laws.specs.Whole.{lifted, words_shaped}
use Rattle.laws.specs.Groups.{high_in}
use Rattle.state_queue.proofs.set_high.Goals as goal

pub returns : goal.returns
returns c =
    let start = c in
    let ws = start.args.words.now in
    let blocks = start.args.blocks in
    let bytes = start.args.bytes in
    lifted ws _ (with_words 4 (blocks ∷ bytes ∷ [])) _ start.requires (omega arith) c.store_at.ensures
    (high_in (window_of ws) (record { blocks = blocks; bytes = bytes })) (words_shaped ws start.requires.long)

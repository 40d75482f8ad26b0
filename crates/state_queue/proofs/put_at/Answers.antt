-- `state_queue::put_at` meets its contract. Assumes nothing.
use mathlib.Core.Path.{◌≡◌, ◌∙◌}
use native.Mathlib.Omega.{arith}
use lib.ListN.{length}
use Rattle.model.specs.Layout.{window_of}
use Rattle.state_queue.specs.Steps.{count_is, total_is, few, blank_after, given}
use Rattle.state_queue.proofs.put_at.Goals as goal

pub overflow_add-more : goal.overflow_add-more
overflow_add-more c =
    let ws = c.args.words.now in
    let whole = c.requires.0 in
    omega (arith, c.word_of-total.ensures ∙ total_is ws, c.requires.1.1.1)

pub overflow_add-count : goal.overflow_add-count
overflow_add-count c =
    let ws = c.args.words.now in
    let whole = c.requires.0 in
    omega (arith, c.word_of-n.ensures ∙ count_is ws whole, few ws whole)

pub insert-requires : goal.insert-requires
insert-requires c =
    let ws = c.args.words.now in
    let whole = c.requires.0 in
    let at_count = c in
    let n : at_count.word_of-n.result ≡ length (window_of ws).queue.pending = at_count.word_of-n.ensures ∙ count_is ws whole in
    (omega (arith, n, c.requires.1.1.0), omega (arith, n, c.requires.1.0), blank_after ws whole at_count.word_of-n.result n)

pub returns : goal.returns
returns c =
    let ws = c.args.words.now in
    let whole = c.requires.0 in
    given ws whole _ _ _ c.args.at c.args.e c.word_of-total.result c.word_of-n.result c.word_of-total.ensures c.word_of-n.ensures c.requires.1.0 c.requires.1.1.0
    c.insert.ensures c.set_word.ensures c.set_word-2.ensures (omega arith)

-- `state_queue::take_out` meets its contract. Assumes nothing.
use mathlib.Core.Path.{◌≡◌, ap, ◌∙◌}
use native.Mathlib.Omega.{arith}
use lib.ListN.{length}
use Rattle.model.specs.Layout.{window_of}
use Rattle.model.specs.declared.Entry.{Entry}
use Rattle.state_queue.specs.Steps.{count_is, total_is, few, blank_after, taken}
use Rattle.state_queue.proofs.take_out.Goals as goal

pub overflow_sub-left : goal.overflow_sub-left
overflow_sub-left c =
    let ws = c.args.words.now in
    let whole = c.requires.0 in
    omega (arith, ap (λ (e : Entry). e.estimate) c.entry_at-e.ensures, c.word_of-total.ensures ∙ total_is ws, c.requires.1.1)

pub overflow_sub-count : goal.overflow_sub-count
overflow_sub-count c =
    let ws = c.args.words.now in
    let whole = c.requires.0 in
    omega (arith, c.word_of-n.ensures ∙ count_is ws whole, c.requires.1.0)

pub remove-requires : goal.remove-requires
remove-requires c =
    let ws = c.args.words.now in
    let whole = c.requires.0 in
    let at_count = c in
    let n : at_count.word_of-n.result ≡ length (window_of ws).queue.pending = at_count.word_of-n.ensures ∙ count_is ws whole in
    (omega (arith, n, few ws whole), omega (arith, n, c.requires.1.0), blank_after ws whole at_count.word_of-n.result n)

pub returns : goal.returns
returns c =
    let ws = c.args.words.now in
    let whole = c.requires.0 in
    taken ws whole _ _ _ c.args.at c.entry_at-e.result c.word_of-total.result c.word_of-n.result c.entry_at-e.ensures c.word_of-total.ensures c.word_of-n.ensures c.requires.1.0
    c.remove.ensures c.set_word.ensures c.set_word-2.ensures (omega arith)

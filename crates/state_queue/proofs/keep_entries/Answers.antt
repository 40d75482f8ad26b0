-- `state_queue::keep_entries` meets its contract. Assumes nothing.
use native.Mathlib.Omega.{arith}
use Rattle.state_queue.specs.Steps.{left_over, none_over}
use Rattle.state_queue.proofs.keep_entries.Goals as goal

-- none is left
pub returns-then-count-eq0 : goal.returns-then-count-eq0
returns-then-count-eq0 c =
    let s = c in
    let rows = c.clear in
    let one = c.set_word in
    let two = c.set_word-then-count-eq0 in
    none_over s.args.words.now s.requires.0 _ _ _ s.args.marks.now s.args.count s.args.total (omega (arith, c.if-count-eq0.true)) s.requires.1
    rows.ensures one.ensures two.ensures (omega arith)

pub returns : goal.returns
returns c =
    let s = c in
    let rows = c.keep in
    let one = c.set_word-2 in
    let two = c.set_word-3 in
    left_over s.args.words.now s.requires.0 _ _ _ s.args.marks.now s.args.count s.args.total s.told-marks s.requires.1
    rows.ensures one.ensures two.ensures (omega arith)

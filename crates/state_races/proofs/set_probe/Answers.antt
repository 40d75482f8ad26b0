-- `state_races::set_probe` meets its contract. Assumes nothing.
use native.Mathlib.Omega.{arith}
use mathlib.Core.Path.{ap, ◌∙◌}
use Prim.Native.Nat.{ℕ}
use Rattle.model.specs.Layout.{window_of, table, probe_words}
use Rattle.laws.specs.Tables.{with_words}
use Rattle.laws.specs.Whole.{lifted, words_shaped}
use Rattle.laws.specs.Groups.{probe_in}
use Rattle.state_races.specs.Hedges.{planned_count}
use Rattle.state_races.proofs.set_probe.Goals as goal

pub returns : goal.returns
returns c =
    let start = c in
    let ws = start.args.words.now in
    let whole = start.requires.0 in
    let x = start.args.x in
    let w = window_of ws in
    let s = words_shaped ws whole.long in
    lifted ws _ (with_words 61 (probe_words x c.word_of-n.result)) _ whole (omega arith) c.store_probe.ensures
    (ap (λ (n : ℕ). with_words 61 (probe_words x n) (table w)) (c.word_of-n.ensures ∙ planned_count ws whole) ∙ probe_in w s x) s

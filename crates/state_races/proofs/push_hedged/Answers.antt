-- `state_races::push_hedged` meets its contract. Assumes nothing.
use native.Mathlib.Omega.{arith}
use mathlib.Core.Path.{ap, ◌∙◌}
use mathlib.Core.List.{List, [], ◌∷◌, ◌++◌}
use Prim.Native.Nat.{ℕ}
use Rattle.model.specs.Layout.{window_of, decode, hedged_words}
use Rattle.laws.specs.Tables.{with_words}
use Rattle.laws.specs.Whole.{lifted, words_shaped}
use Rattle.laws.specs.Groups.{hedged_in}
use Rattle.state_races.specs.Hedges.{hedged_count, hedged_at, pushed_is, length_pushed}
use Rattle.state_races.proofs.push_hedged.Goals as goal

pub returns : goal.returns
returns c =
    let start = c in
    let ws = start.args.words.now in
    let whole = start.requires.0 in
    let w = window_of ws in
    let s = words_shaped ws whole.long in
    let hs = w.races.hedged in
    let h = start.args.h in
    let is = pushed_is hs c.word_of-n.result c.hash_of-g.result h (c.word_of-n.ensures ∙ hedged_count ws whole)
    (λ b. c.hash_of-g.ensures ∙ hedged_at ws whole.long 0 b) start.requires.1 in
    let few = length_pushed hs h start.requires.1 in
    lifted ws _ (with_words 46 (hedged_words (hs ++ (h ∷ [])))) _ whole (omega arith)
    (c.store_at.ensures ∙ ap (λ (l : List ℕ). with_words 46 l (decode ws)) (c.pushed_list-l.ensures ∙ ap hedged_words is)) (hedged_in w s (hs ++ (h ∷ [])) few)
    (record { few = s.few; starts = s.starts; bodies = s.bodies; keys = s.keys; cooling = s.cooling; racers = s.racers; hedged = few; planned = s.planned })

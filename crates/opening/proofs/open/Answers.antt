-- `opening::open` meets its contract. Assumes nothing.
use native.Mathlib.Omega.{arith}
use mathlib.Core.Path.{ap, ◌∙◌}
use mathlib.Core.List.{List, [], ◌∷◌}
use Prim.Native.Nat.{ℕ}
use Rattle.model.specs.Layout.{settings_words}
use Rattle.laws.specs.Tables.{with_keys, with_words}
use Rattle.layout.specs.Head.{pace_list}
use Rattle.opening.specs.Blank.{opened_in, opened_holds}
use Rattle.opening.proofs.open.Goals as goal

pub returns : goal.returns
returns c =
    let s = c in
    let a = s.args in
    let first : List ℕ = 1 ∷ 0 ∷ a.clock ∷ 0 ∷ 0 ∷ 0 ∷ 262144 ∷ 1 ∷ [] in
    let keyed = c.set_keys.ensures ∙ ap (with_keys a.keys.now) c.clear.ensures in
    let counted = c.store_at.ensures ∙ ap (with_words 0 first) keyed in
    let set = c.store_settings.ensures ∙ ap (with_words 8 (settings_words a.b)) counted in
    let paced = c.store_pace.ensures ∙ (λ i. with_words 22 (pace_list (c.lend_at_opening-p.ensures i)) (set i)) in
    opened_holds a.clock a.b a.keys.now _ s.told-keys (omega arith) (paced ∙ opened_in a.clock a.b a.keys.now)

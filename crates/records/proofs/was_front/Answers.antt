-- `records::was_front` meets its contract. Assumes nothing.
use mathlib.Core.Path.{◌≡◌, refl, ap, ◌∙◌}
use mathlib.Core.Bool.{Bool, ◌&&◌}
use mathlib.Core.List.{List, [], ◌∷◌, map}
use Prim.Native.Nat.{ℕ, ◌+◌, ◌-◌}
use native.Mathlib.Omega.{arith}
use lib.ListN.{take, drop}
use lib.Dec.{ltb}
use Rattle.std.specs.List.{list_all}
use Rattle.std.proofs.Common.{rules, tests}
use Rattle.std.proofs.lemmas.Iterator.{YieldsList-from_slice}
use Rattle.std.proofs.lemmas.Iterator.Search.{all_from_yields_List}
use Rattle.model.specs.Lists.{all}
use Rattle.model.specs.Pace.{was_front}
use Rattle.model.specs.Layout.{field, decode}
use Rattle.model.specs.declared.Entry.{Entry}
use Rattle.records.proofs.Live.{live_col}
use Rattle.records.proofs.was_front.Goals as goal

of_heights : (n : ℕ) (l : List Entry) → list_all (λ h. ltb n h) (map (field 6) l) ≡ was_front n l
unfolding was_front all
of_heights n [] = refl
of_heights n (e ∷ l) = ap (λ (b : Bool). ltb n e.height && b) (of_heights n l)

pub returns : goal.returns
unfolding decode
returns c =
    let a = c.args in
    let heights = take (1536 + a.count - 1536) (drop 1536 a.words.now) in
    let higher : c.all.result ≡ list_all (λ h. ltb a.height h) heights =
    all_from_yields_List (λ h. ltb a.height h) _ _ c.all.result c.all.ensures.ran (YieldsList-from_slice heights c.iter.ensures.rest) (λ x b q k. search (rules, tests)) in
    higher ∙ ap (list_all (λ h. ltb a.height h)) (live_col 6 a.count a.words.now (omega arith) (omega arith) c.told-words) ∙ of_heights a.height _

-- `layout::store_fanout` meets its contract. Assumes nothing.
use mathlib.Core.Path.{◌≡◌, refl, ap, ◌∙◌}
use mathlib.Core.Bool.{Bool, true, false}
use Rattle.std.specs.Int.{from_bool}
use mathlib.Core.List.{[], ◌∷◌}
use Prim.Native.Nat.{ℕ}
use Rattle.model.specs.Layout.{decode, flag_word}
use Rattle.laws.specs.Tables.{with_words}
use Rattle.layout.specs.Head.{fanout_list}
use Rattle.layout.proofs.store_fanout.Goals as goal

flag_is : (b : Bool) → from_bool b ≡ flag_word b
flag_is true = refl
flag_is false = refl

pub returns : goal.returns
unfolding fanout_list
returns c =
    let a = c.args in
    let t = decode a.words.now in
    c.store_at.ensures ∙ ap (λ (v : ℕ). with_words 20 (a.f.eligible ∷ v ∷ []) t) (c.from.ensures ∙ flag_is a.f.engaged)

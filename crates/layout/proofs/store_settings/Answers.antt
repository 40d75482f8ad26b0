-- `layout::store_settings` meets its contract. Assumes nothing.
use native.Mathlib.Omega.{arith}
use mathlib.Core.Path.{ap, ◌∙◌}
use mathlib.Core.List.{List}
use Prim.Native.Nat.{ℕ}
use Rattle.model.specs.Layout.{decode}
use Rattle.laws.specs.Tables.{with_words}
use Rattle.layout.proofs.store_settings.Goals as goal

pub slice_bounds-store_at-end : goal.slice_bounds-store_at-end
slice_bounds-store_at-end c = omega arith

pub returns : goal.returns
returns c =
    let t = decode c.args.words.now in
    c.store_at.ensures ∙ ap (λ (l : List ℕ). with_words 8 l t) c.settings_list-l.ensures

-- `layout::store_source` meets its contract. Assumes nothing.
use mathlib.Core.Path.{ap, ◌∙◌}
use mathlib.Core.List.{[], ◌∷◌}
use Prim.Native.Nat.{ℕ}
use Rattle.model.specs.Layout.{decode}
use Rattle.laws.specs.Tables.{with_words}
use Rattle.layout.proofs.store_source.Goals as goal

pub returns : goal.returns
returns c =
    let t = decode c.args.words.now in
    c.set_word.ensures ∙ ap (λ (v : ℕ). with_words c.args.k (v ∷ []) t) c.source_word.ensures

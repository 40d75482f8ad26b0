-- `plans::store_planned` meets its contract. Assumes nothing.
use mathlib.Core.Path.{ap, ◌∙◌}
use mathlib.Core.List.{List}
use Prim.Native.Nat.{ℕ}
use Rattle.model.specs.Layout.{decode}
use Rattle.laws.specs.Tables.{with_words}
use Rattle.plans.specs.Rows.{rows_words}
use Rattle.plans.proofs.store_planned.Goals as goal

pub returns : goal.returns
unfolding rows_words
returns c =
    let a = c.args in
    c.store_at.ensures ∙ ap (λ (l : List ℕ). with_words 65 l (decode a.words.now)) c.planned_list-l.ensures

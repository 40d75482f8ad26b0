-- `release::lower_to` meets its contract. Assumes nothing.
use Rattle.std.specs.Prelude.{Option, ℕ}
use mathlib.Core.Path.{sym, subst}
use Rattle.model.specs.LettingGo.{lower_to}
use Rattle.model.specs.Layout.{window_of}
use Rattle.laws.specs.Whole.{Holds, holds_whole}
use Rattle.release.proofs.lower_to.Goals as goal

pub returns-in_default : goal.returns-in_default
returns-in_default c =
    let a = c.args in
    subst (λ (n : Option ℕ). Holds (lower_to n (window_of a.words.now)) a.words.now) (sym c.in_default.is) (holds_whole a.words.now c.requires)

-- `requests::forget_attempted` meets its contract. Assumes nothing.
use mathlib.Core.Path.{sym, ap, ◌∙◌}
use mathlib.Core.Bool.{not, ◌&&◌}
use Prim.Native.Nat.{ℕ}
use lib.Dec.{eqb}
use Rattle.laws.specs.Whole.{holds_whole}
use Rattle.requests.proofs.forget_attempted.Goals as goal

pub returns-then-count-n : goal.returns-then-count-n
returns-then-count-n c =
    let a = c.args in
    rw (ap (λ (k : ℕ). eqb k 0 && not (eqb a.n 0)) (sym c.pending_count-count.ensures.0) ∙ c.if-count-n.true) c.set_attempted.ensures

pub returns-else-count-n : goal.returns-else-count-n
returns-else-count-n c =
    let a = c.args in
    rw (ap (λ (k : ℕ). eqb k 0 && not (eqb a.n 0)) (sym c.pending_count-count.ensures.0) ∙ c.if-count-n.false) (holds_whole a.words.now c.requires)

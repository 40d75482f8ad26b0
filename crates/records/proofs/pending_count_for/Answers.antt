-- `records::pending_count_for` meets its contract: at the loop's head `n` and the count from the seat on are the count of all. Assumes nothing.
use mathlib.Core.Path.{◌≡◌, refl, ap, ◌∙◌}
use mathlib.Core.Bool.{true, false, cond}
use mathlib.Core.List.{List, [], ◌∷◌, map}
use Prim.Native.Nat.{ℕ, suc}
use native.Mathlib.Omega.{arith}
use lib.Dec.{eqb}
use borrow.Author.Tests.{eq-eqb, ne_eqb}
use Rattle.model.specs.Lists.{count}
use Rattle.model.specs.Records.{pending_count_for}
use Rattle.model.specs.Layout.{field, decode}
use Rattle.model.specs.declared.Entry.{Entry}
use Rattle.column.proofs.Laws.{count_turn, count_end}
use Rattle.records.proofs.Live.{live_col}
use Rattle.records.proofs.pending_count_for.Invariants.{S, is}
use Rattle.records.proofs.pending_count_for.Goals as goal
use Rattle.records.proofs.pending_count_for.Goals.{then-seat-owner, else-seat-owner}

of_seats : (o : ℕ) (l : List Entry) → count (is o) (map (field 4) l) ≡ pending_count_for o l
unfolding pending_count_for count
of_seats o [] = refl
of_seats o (e ∷ l) = ap (λ (n : ℕ). cond (eqb e.owner o) (suc n) n) (of_seats o l)

pub loop-seat-preserved : goal.loop-seat-preserved
loop-seat-preserved c =
    let a = c.args in
    let l = c.loop-seat in
    let turn = count_turn (is a.owner) (S a.count a.words.now) l.seat-index 0 in
    elim c.if-seat-owner.branch [
      | then-seat-owner w ↦ let t = turn true (omega arith) (eq-eqb _ _ w.if-seat-owner.true) in (omega arith, omega (arith, t, l.invariant.1))
      | else-seat-owner w ↦ let t = turn false (omega arith) (ne_eqb _ _ w.if-seat-owner.false) in (omega arith, omega (arith, t, l.invariant.1))
    ]

pub returns : goal.returns
unfolding decode
returns c =
    let a = c.args in
    let l = c.loop-seat in
    let seats = S a.count a.words.now in
    let all : l.n ≡ count (is a.owner) seats = omega (arith, count_end (is a.owner) seats l.seat-index (omega arith), l.invariant.1) in
    all ∙ ap (count (is a.owner)) (live_col 4 a.count a.words.now (omega arith) (omega arith) c.told-words) ∙ of_seats a.owner _

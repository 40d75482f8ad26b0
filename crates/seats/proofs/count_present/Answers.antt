-- `seats::count_present` meets its contract: at the loop's head `n` and the count from the word on are the count of all. Assumes nothing.
use mathlib.Core.Path.{ap, ◌∙◌}
use mathlib.Core.Bool.{true, false}
use native.Mathlib.Omega.{arith}
use Rattle.model.specs.Numbers.{present}
use Rattle.laws.specs.Numbers.{present_none, present_some}
use Rattle.column.proofs.Laws.{count_turn, count_end}
use Rattle.seats.proofs.count_present.Goals as goal
use Rattle.seats.proofs.count_present.Goals.{then-word-ne0, else-word-ne0}

pub loop-word-preserved : goal.loop-word-preserved
loop-word-preserved c =
    let l = c.loop-word in
    let turn = count_turn present c.args.col.now l.word-index 0 in
    elim c.if-word-ne0.branch [
      | then-word-ne0 w ↦ let t = turn true (omega arith) (present_some _ w.if-word-ne0.true) in (omega arith, omega (arith, t, l.invariant.1))
      | else-word-ne0 w ↦ let t = turn false (omega arith) (ap present w.if-word-ne0.false ∙ present_none) in (omega arith, omega (arith, t, l.invariant.1))
    ]

pub returns : goal.returns
returns c =
    let l = c.loop-word in
    omega (arith, count_end present c.args.col.now l.word-index (omega arith), l.invariant.1)

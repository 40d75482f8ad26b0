-- `state_races::is_planned` meets its contract. Assumes nothing.
use native.Mathlib.Omega.{arith}
use Rattle.laws.specs.Whole.{words_shaped}
use Rattle.state_races.specs.Hedges.{planned_listed}
use Rattle.state_races.proofs.is_planned.Goals as goal

pub is_listed-requires : goal.is_listed-requires
is_listed-requires c =
    let a = c in
    omega (arith, c.planned_count-n.ensures, (words_shaped a.args.words.now a.requires.long).planned)

pub returns : goal.returns
returns c =
    let a = c in
    c.is_listed.ensures _ (planned_listed a.args.words.now a.requires.long _ c.planned_count-n.ensures)

-- `state_races::is_hedged` meets its contract. Assumes nothing.
use native.Mathlib.Omega.{arith}
use Rattle.laws.specs.Whole.{words_shaped}
use Rattle.state_races.specs.Hedges.{hedged_listed}
use Rattle.state_races.proofs.is_hedged.Goals as goal

pub is_listed-requires : goal.is_listed-requires
is_listed-requires c =
    let a = c in
    omega (arith, c.hedged_count-n.ensures, (words_shaped a.args.words.now a.requires.long).hedged)

pub returns : goal.returns
returns c =
    let a = c in
    c.is_listed.ensures _ (hedged_listed a.args.words.now a.requires.long _ c.hedged_count-n.ensures)

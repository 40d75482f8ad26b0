-- `state_races::planned_hash` meets its contract. Assumes nothing.
use native.Mathlib.Omega.{arith}
use mathlib.Core.Path.{◌∙◌}
use Rattle.state_races.specs.Hedges.{planned_few, planned_at}
use Rattle.state_races.proofs.planned_hash.Goals as goal

pub overflow_mul-k : goal.overflow_mul-k
overflow_mul-k c = let a = c in omega (arith, planned_few a.args.words.now a.told-words a.args.i a.requires)

pub overflow_add-k : goal.overflow_add-k
overflow_add-k c = let a = c in omega (arith, planned_few a.args.words.now a.told-words a.args.i a.requires)

pub hash_of-requires : goal.hash_of-requires
hash_of-requires c = let a = c in
    omega (arith, planned_few a.args.words.now a.told-words a.args.i a.requires)

pub returns : goal.returns
returns c = let a = c in c.hash_of.ensures ∙ planned_at a.args.words.now a.told-words a.args.i a.requires

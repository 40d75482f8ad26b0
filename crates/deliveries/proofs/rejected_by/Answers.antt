-- `deliveries::rejected_by` meets its contract. Assumes nothing.
use Rattle.laws.specs.Whole.{holds_whole}
use Rattle.deliveries.proofs.rejected_by.Goals as goal

pub returns-in_default : goal.returns-in_default
returns-in_default c = rw c.in_default.is (holds_whole c.args.words.now c.requires.0)

pub returns-in-Some : goal.returns-in-Some
returns-in-Some c = rw c.in-Some.is c.rejected_from.ensures

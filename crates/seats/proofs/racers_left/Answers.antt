-- `seats::racers_left` meets its contract. Assumes nothing.
use Rattle.model.specs.Layout.{decode}
use Rattle.seats.proofs.racers_left.Goals as goal

pub returns : goal.returns
unfolding decode
returns c = c.count_present.ensures

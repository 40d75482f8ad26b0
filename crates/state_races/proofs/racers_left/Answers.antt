-- `state_races::racers_left` meets its contract. Assumes nothing.
use Rattle.model.specs.Layout.{window_of, read}
use Rattle.state_races.proofs.racers_left.Goals as goal

pub returns : goal.returns
unfolding window_of read
returns c = c.racers_left.ensures

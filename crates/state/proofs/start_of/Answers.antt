-- `state::start_of` meets its contract. Assumes nothing.
use Rattle.model.specs.Layout.{window_of, read}
use Rattle.state.proofs.start_of.Goals as goal

pub returns : goal.returns
unfolding window_of read
returns c = c.start_of.ensures

-- `state::key_of` meets its contract. Assumes nothing.
use Rattle.model.specs.Layout.{window_of, read}
use Rattle.model.specs.Cooling.{key_of}
use Rattle.state.proofs.key_of.Goals as goal

pub returns : goal.returns
unfolding window_of read key_of
returns c = c.key_of.ensures

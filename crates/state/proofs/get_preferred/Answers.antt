-- `state::get_preferred` meets its contract. Assumes nothing.
use Rattle.model.specs.Layout.{window_of, read}
use Rattle.state.proofs.get_preferred.Goals as goal

pub returns : goal.returns
unfolding window_of read
returns c = c.load_source.ensures

-- `state::get_settings` meets its contract. Assumes nothing.
use Rattle.model.specs.Layout.{window_of, read}
use Rattle.state.proofs.get_settings.Goals as goal

pub returns : goal.returns
unfolding window_of read
returns c = c.load_settings.ensures

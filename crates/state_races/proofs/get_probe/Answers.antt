-- `state_races::get_probe` meets its contract. Assumes nothing.
use Rattle.model.specs.Layout.{window_of, read}
use Rattle.state_races.proofs.get_probe.Goals as goal

pub returns : goal.returns
unfolding window_of read
returns c = c.load_probe.ensures

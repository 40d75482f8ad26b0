-- `state::get_fanout` meets its contract. Assumes nothing.
use Rattle.model.specs.Layout.{window_of, read}
use Rattle.layout.specs.Head.{fanout_of}
use Rattle.state.proofs.get_fanout.Goals as goal

pub returns : goal.returns
unfolding window_of read fanout_of
returns c = c.load_fanout.ensures

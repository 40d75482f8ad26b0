-- `state::active_peers` meets its contract. Assumes nothing.
use Rattle.model.specs.Layout.{window_of, read}
use Rattle.model.specs.Time.{active}
use Rattle.state.proofs.active_peers.Goals as goal

pub returns : goal.returns
unfolding window_of read active
returns c = c.active_downloading_peers.ensures

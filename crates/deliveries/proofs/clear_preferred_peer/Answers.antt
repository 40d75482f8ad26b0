-- `deliveries::clear_preferred_peer` meets its contract. Assumes nothing.
use Rattle.model.specs.Calls.{clear_preferred_peer}
use Rattle.deliveries.proofs.clear_preferred_peer.Goals as goal

pub returns : goal.returns
unfolding clear_preferred_peer
returns c = c.set_preferred.ensures

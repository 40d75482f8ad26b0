-- `seats::active_downloading_peers` meets its contract. Assumes nothing.
use Rattle.model.specs.Seats.{active_downloading_peers}
use Rattle.model.specs.Layout.{decode}
use Rattle.seats.proofs.active_downloading_peers.Goals as goal

pub returns : goal.returns
unfolding active_downloading_peers decode
returns c = c.count_present.ensures

-- `release::release_pending` meets its contract. Assumes nothing.
use Rattle.model.specs.LettingGo.{release_pending}
use Rattle.release.proofs.release_pending.Goals as goal

pub returns : goal.returns
unfolding release_pending
returns c = c.remove_pending_by.ensures

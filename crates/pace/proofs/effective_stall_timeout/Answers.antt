-- `pace::effective_stall_timeout` meets its contract. Assumes nothing.
use Rattle.model.specs.Pace.{effective_stall_timeout}
use Rattle.pace.proofs.effective_stall_timeout.Goals as goal

pub returns : goal.returns
unfolding effective_stall_timeout
returns c = cc

-- `capacity::batch_limit` meets its contract. Assumes nothing.
use Rattle.capacity.specs.OnNumbers.{batch_limit_by}
use Rattle.capacity.proofs.batch_limit.Goals as goal

pub returns : goal.returns
unfolding batch_limit_by
returns c = cc

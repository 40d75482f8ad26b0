-- `capacity::byte_capacity` meets its contract. Assumes nothing.
use Rattle.capacity.specs.OnNumbers.{byte_capacity_by}
use Rattle.capacity.proofs.byte_capacity.Goals as goal

pub returns : goal.returns
unfolding byte_capacity_by
returns c = cc

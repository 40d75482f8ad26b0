-- `layout::store_pace` meets its contract. Assumes nothing.
use Rattle.layout.specs.Head.{pace_list}
use Rattle.layout.proofs.store_pace.Goals as goal

pub returns : goal.returns
unfolding pace_list
returns c = c.store_at.ensures

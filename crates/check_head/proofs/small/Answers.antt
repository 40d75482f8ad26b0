-- `check_head::small` meets its contract: the code is the row of tests. Assumes nothing.
use Rattle.facts.specs.Head.{small_row, small_is}
use Rattle.facts.specs.Flags.{fold}
use Rattle.check_head.proofs.small.Goals as goal

pub returns : goal.returns
unfolding fold small_row
returns c = small_is _

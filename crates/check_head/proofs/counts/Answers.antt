-- `check_head::counts` meets its contract: the code is the row of tests. Assumes nothing.
use Rattle.facts.specs.Head.{counts_row, counts_is}
use Rattle.facts.specs.Flags.{fold}
use Rattle.check_head.proofs.counts.Goals as goal

pub returns : goal.returns
unfolding fold counts_row
returns c = counts_is _

-- `request_many::fill` meets its contract: at the loop's head the rows from j on are written. Assumes nothing.
use Rattle.request_many.specs.Fill.{Filled}
use Rattle.request_many.proofs.fill.Given as goal

abbrev pub invariant-loop-j : goal.invariant-loop-j
invariant-loop-j l = Filled l.initial.words l.hashes l.heights l.order l.m l.total l.owner l.clock l.mean l.j l.words

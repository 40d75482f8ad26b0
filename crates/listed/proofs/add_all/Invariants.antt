-- `listed::add_all` meets its contract: the first i hashes are in the index. Assumes nothing.
use Rattle.listed.specs.Index.{Indexed}
use Rattle.listed.proofs.add_all.Given as goal

abbrev pub invariant-loop-i : goal.invariant-loop-i
invariant-loop-i l = Indexed l.i l.list l.index

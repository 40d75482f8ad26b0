-- `listed::chained` meets its contract: what is left to look at is a chain of its bucket. Assumes nothing.
use Rattle.std.proofs.Common.{length}
use Rattle.model.specs.Hash.{hash}
use Rattle.listed.specs.Index.{linked}
use Rattle.listed.specs.Chain.{Chain}
use Rattle.listed.proofs.chained.Given as goal

abbrev pub invariant-loop-i : goal.invariant-loop-i
invariant-loop-i l = Chain (hash l.a l.b l.c l.d) l.list (linked l.n (length l.index)) l.j

abbrev pub decreases-loop-i : goal.decreases-loop-i
decreases-loop-i l = l.j

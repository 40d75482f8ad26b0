-- `check_window::raced` meets its contract: by whether there is a probe. Assumes nothing.
use Rattle.std.proofs.Common.{arith, eq-eqb, ne_eqb}
use Rattle.facts.specs.Words.{most_raced}
use Rattle.check_window.proofs.raced.Goals as goal

pub returns-then-since-eq0 : goal.returns-then-since-eq0
unfolding most_raced
returns-then-since-eq0 c = (rw (eq-eqb _ 0 c.if-since-eq0.true), omega arith)

pub returns : goal.returns
unfolding most_raced
returns c = (rw (ne_eqb _ 0 c.if-since-eq0.false), omega arith)

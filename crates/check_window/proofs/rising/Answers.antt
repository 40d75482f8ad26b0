-- `check_window::rising` meets its contract: by whether it is the first record. Assumes nothing.
use Rattle.std.proofs.Common.{eq-eqb, ne_eqb}
use Rattle.facts.specs.Words.{rises}
use Rattle.check_window.proofs.rising.Goals as goal

pub returns-then-i-eq0 : goal.returns-then-i-eq0
unfolding rises
returns-then-i-eq0 c = rw (eq-eqb _ 0 c.if-i-eq0.true)

pub returns : goal.returns
unfolding rises
returns c = rw (ne_eqb _ 0 c.if-i-eq0.false, ← c.hash_at.ensures, ← c.hash_at-2.ensures) c.less.ensures

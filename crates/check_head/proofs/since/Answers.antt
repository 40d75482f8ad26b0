-- `check_head::since` meets its contract: by its first word. Assumes nothing.
use borrow.Author.Tests.{eq-eqb, ne_eqb}
use Rattle.facts.specs.Flags.{fold}
use Rattle.facts.specs.Words.{since_fits}
use Rattle.check_head.proofs.since.Goals as goal

pub returns-then-t-eq0 : goal.returns-then-t-eq0
unfolding since_fits
returns-then-t-eq0 c = rw (eq-eqb _ 0 c.if-t-eq0.true) c.any_bits.ensures

pub returns : goal.returns
unfolding since_fits fold
returns c = rw (ne_eqb _ 0 c.if-t-eq0.false)

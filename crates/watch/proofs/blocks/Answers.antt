-- `watch::blocks` meets its contract. Assumes nothing.
use borrow.Author.Tests.{eq-eqb, ne_eqb, le-leb, lt-leb}
use Rattle.model.specs.Observation.{blocks}
use Rattle.watch.proofs.blocks.Goals as goal

pub returns-then-e-next : goal.returns-then-e-next
unfolding blocks
returns-then-e-next c = λ w e. rw (ne_eqb _ _ c.if-e-next.true)

pub returns-then-staged-b : goal.returns-then-staged-b
unfolding blocks
returns-then-staged-b c = λ w e. rw (eq-eqb _ _ c.if-e-next.false, e, lt-leb _ _ c.if-staged-b.true)

pub returns : goal.returns
unfolding blocks
returns c = λ w e. rw (eq-eqb _ _ c.if-e-next.false, e, le-leb _ _ c.if-staged-b.false) c.is_above.ensures

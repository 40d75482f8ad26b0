-- `requests::start_owner` meets its contract. Assumes nothing.
use borrow.Author.Tests.{eq-eqb, ne_eqb}
use Rattle.laws.specs.Whole.{holds_whole}
use Rattle.requests.proofs.start_owner.Goals as goal

pub returns-then-n-ne0 : goal.returns-then-n-ne0
returns-then-n-ne0 c = rw (ne_eqb c.args.n 0 c.if-n-ne0.true) c.note_start.ensures

pub returns-else-n-ne0 : goal.returns-else-n-ne0
returns-else-n-ne0 c = rw (eq-eqb c.args.n 0 c.if-n-ne0.false) (holds_whole c.args.words.now c.requires.0)

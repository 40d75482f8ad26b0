-- `listed::linked` meets its contract. Assumes nothing.
use Rattle.std.proofs.Common.{sym, arith}
use Rattle.listed.specs.Laws.{linked_all, linked_full}
use Rattle.listed.proofs.linked.Goals as goal

pub returns-then-n-links : goal.returns-then-n-links
returns-then-n-links c = sym (linked_all c.args.n c.args.size (omega (arith, c.if-n-links.true)))

pub returns : goal.returns
returns c = sym (linked_full c.args.n c.args.size (omega (arith, c.if-n-links.false)))

-- `prefix_probe::follows` meets its contract. Assumes nothing.
use mathlib.Core.Path.{sym}
use Rattle.prefix_probe.specs.Walks.{follows, follows_marked}
use Rattle.prefix_probe.proofs.follows.Goals as goal

pub returns-then-mark-ne0 : goal.returns-then-mark-ne0
returns-then-mark-ne0 c = sym (follows_marked c.args.height c.args.expected c.args.mark c.if-mark-ne0.true)

pub returns : goal.returns
unfolding follows
returns c = rw c.if-mark-ne0.false

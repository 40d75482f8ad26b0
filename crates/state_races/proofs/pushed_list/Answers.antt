-- `state_races::pushed_list` meets its contract. Assumes nothing.
use Rattle.state_races.specs.Hedges.{pushed_none, pushed_some}
use Rattle.state_races.proofs.pushed_list.Goals as goal

pub returns-then-n-eq0 : goal.returns-then-n-eq0
returns-then-n-eq0 c = pushed_none c.args.n c.args.g c.args.h c.if-n-eq0.true

pub returns : goal.returns
returns c = pushed_some c.args.n c.args.g c.args.h c.if-n-eq0.false

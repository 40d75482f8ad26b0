-- `watch::stuck_anew` meets its contract. Assumes nothing.
use Rattle.model.specs.Observation.{stuck_anew}
use Rattle.watch.proofs.stuck_anew.Goals as goal

pub returns-then-busy : goal.returns-then-busy
unfolding stuck_anew
returns-then-busy c = rw c.if-busy.true

pub returns : goal.returns
unfolding stuck_anew
returns c = rw c.if-busy.false

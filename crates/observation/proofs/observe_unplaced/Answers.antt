-- `observation::observe_unplaced` meets its contract. Assumes nothing.
use mathlib.Core.Path.{refl}
use Rattle.model.specs.Observation.{none, busy_seen}
use Rattle.model.specs.Races.{no_hedge}
use Rattle.observation.specs.Look.{timeout_sees}
use Rattle.observation.proofs.observe_unplaced.Goals as goal

pub returns-then-busy : goal.returns-then-busy
unfolding busy_seen
returns-then-busy c = λ n f s g. rw c.if-busy.true (record { left = c.clear_watch.ensures none; told = refl })

pub returns : goal.returns
returns c = λ n f s g. rw c.if-busy.false (timeout_sees no_hedge c.advance_pending_timeout-late.ensures refl c.timeout_answer.ensures)

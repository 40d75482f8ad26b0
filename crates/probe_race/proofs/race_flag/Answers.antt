-- `probe_race::race_flag` meets its contract. Assumes nothing.
use Rattle.probe_race.proofs.race_flag.Goals as goal

pub returns-then-won : goal.returns-then-won
returns-then-won c = rw c.if-won.true

pub returns-then-present : goal.returns-then-present
returns-then-present c = rw (c.if-won.false, ← c.present.ensures, c.if-present.true)

pub returns : goal.returns
returns c = rw (c.if-won.false, ← c.present.ensures, c.if-present.false)

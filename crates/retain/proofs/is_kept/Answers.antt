-- `retain::is_kept` meets its contract. Assumes nothing.
use mathlib.Core.Path.{refl}
use Rattle.model.specs.LettingGo.{flagged}
use Rattle.retain.specs.Retains.{not_flagged}
use Rattle.retain.proofs.is_kept.Goals as goal

pub returns-then-seat-gt-MAX_SEAT : goal.returns-then-seat-gt-MAX_SEAT
returns-then-seat-gt-MAX_SEAT c = not_flagged c.args.flags.now c.args.seat c.told-flags c.if-seat-gt-MAX_SEAT.true

pub returns : goal.returns
unfolding flagged
returns c = refl

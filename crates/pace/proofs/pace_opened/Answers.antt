-- `pace::pace_opened` meets its contract. Assumes nothing.
use mathlib.Core.Path.{refl}
use Rattle.model.specs.Pace.{pace_opened}
use Rattle.pace.proofs.pace_opened.Goals as goal

pub returns : goal.returns
unfolding pace_opened
returns c = refl

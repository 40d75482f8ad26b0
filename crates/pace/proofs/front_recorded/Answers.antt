-- `pace::front_recorded` meets its contract. Assumes nothing.
use native.Mathlib.Omega.{arith}
use native.Mathlib.Numerals.{add-one}
use Rattle.model.specs.Pace.{front_recorded}
use Rattle.laws.specs.PaceKept.{front_mean_le}
use Rattle.pace.proofs.front_recorded.Goals as goal

pub decay_floor-floor-requires : goal.decay_floor-floor-requires
decay_floor-floor-requires c = omega (arith, c.front_mean-mean.ensures, front_mean_le _ c.args.p.advance _ c.requires.0 c.requires.1)

pub returns : goal.returns
unfolding front_recorded
returns c = cc (add-one c.args.now)

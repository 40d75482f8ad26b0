-- `admission::clock_fits` meets its contract. Assumes nothing.
use mathlib.Core.Path.{refl}
use Rattle.model.specs.Numbers.{clock_ok}
use Rattle.admission.proofs.clock_fits.Goals as goal

pub returns : goal.returns
unfolding clock_ok
returns c = refl

-- `admission::room_fits` meets its contract. Assumes nothing.
use mathlib.Core.Path.{refl}
use Rattle.model.specs.Refusals.{report_ok}
use Rattle.admission.proofs.room_fits.Goals as goal

pub returns-in-None : goal.returns-in-None
unfolding report_ok
returns-in-None c = rw c.in-None.is refl

pub returns-in-Some : goal.returns-in-Some
unfolding report_ok
returns-in-Some c = rw c.in-Some.is refl

-- `letting_go::gone_at` meets its contract. Assumes nothing.
use mathlib.Core.Path.{refl}
use Rattle.letting_go.proofs.gone_at.Goals as goal

pub set_clock-requires : goal.set_clock-requires
set_clock-requires c = c.requires

pub returns : goal.returns
returns c = (refl, c.set_clock.ensures)

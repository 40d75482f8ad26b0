-- `probe_race::all_four` meets its contract. Assumes nothing.
use mathlib.Core.Path.{refl}
use Rattle.model.specs.Races.{all_four}
use Rattle.probe_race.proofs.all_four.Goals as goal

pub returns : goal.returns
unfolding all_four
returns c = refl

-- `requests::new_entry` meets its contract. Assumes nothing.
use mathlib.Core.Path.{refl}
use Rattle.model.specs.Records.{new_entry}
use Rattle.requests.proofs.new_entry.Goals as goal

pub returns : goal.returns
unfolding new_entry
returns c = refl

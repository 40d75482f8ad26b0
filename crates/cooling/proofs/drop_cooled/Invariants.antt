-- `cooling::drop_cooled` meets its contract. At the loop's head the stored times so far are mapped. Assumes nothing.
use mathlib.Core.Path.{◌≡◌}
use Rattle.cooling.specs.InPlace.{kept, mapped}
use Rattle.cooling.proofs.drop_cooled.Given as goal

abbrev pub invariant-loop-stored : goal.invariant-loop-stored
invariant-loop-stored l = l.table ≡ mapped (kept l.cooldown l.clock) l.stored-index l.initial.table

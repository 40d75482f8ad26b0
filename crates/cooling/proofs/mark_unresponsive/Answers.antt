-- `cooling::mark_unresponsive` meets its contract. Assumes nothing.
use mathlib.Core.Path.{ap}
use Prim.Native.Nat.{ℕ, suc}
use native.Mathlib.Numerals.{add-one}
use mathlib.Core.List.{List}
use lib.ListN.{set}
use Rattle.model.specs.Cooling.{cooling_noted}
use Rattle.cooling.proofs.mark_unresponsive.Goals as goal

pub returns : goal.returns
unfolding cooling_noted
returns c =
    let start = c in
    rw add-one (ap (λ (t : List ℕ). set t start.args.key (suc start.args.clock)) c.drop_cooled.ensures)

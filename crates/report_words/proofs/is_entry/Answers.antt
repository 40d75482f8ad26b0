-- `report_words::is_entry` meets its contract. Assumes nothing.
use mathlib.Core.Path.{ap}
use mathlib.Core.Bool.{Bool, ◌&&◌}
use Prim.Native.Nat.{◌+◌, ◌*◌}
use lib.ListN.{get_or}
use lib.Dec.{eqb}
use Rattle.model.specs.LettingGo.{is_entry}
use Rattle.report_words.proofs.is_entry.Goals as goal

pub returns : goal.returns
unfolding is_entry
returns c =
    let a = c.args in
    ap (λ (b : Bool). b && eqb (get_or a.gone.now (9 * a.i + 4) 0) a.owner) c.equal-same.ensures

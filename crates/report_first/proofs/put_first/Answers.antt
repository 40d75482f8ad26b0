-- `report_first::put_first` meets its contract. Assumes nothing.
use native.Mathlib.Omega.{arith}
use Rattle.report_first.specs.Fronts.{front_put}
use Rattle.report_first.proofs.put_first.Goals as goal

pub returns : goal.returns
returns c =
    let s = c in
    let x = s.args.gone.now in
    let y = c.make_room.new.gone in
    λ n b.
    rw c.copy_over.ensures (front_put x y s.args.first.now (omega arith) s.told-first c.make_room.ensures n b)

-- `check_window::seat_top` meets its contract: an OR has no top bit exactly when its parts have none. Assumes nothing.
use Rattle.std.proofs.Common.{◌&&◌, ◌∙◌}
use Rattle.facts.specs.Bits.{or_top5}
use Rattle.facts.specs.Words.{seat_by}
use Rattle.check_window.proofs.seat_top.Goals as goal

pub returns : goal.returns
unfolding seat_by
returns c =
    let t = c.start_top-t in
    let u = c.over-u in
    let v = c.over-v in
    let x = c.over-x in
    let y = c.over-y in
    or_top5 t.result u.result v.result x.result y.result
    ∙ (λ i. t.ensures i && u.ensures i && v.ensures i && x.ensures i && y.ensures i)

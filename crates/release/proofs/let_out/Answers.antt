-- `release::let_out` meets its contract. Assumes nothing.
use mathlib.Core.Path.{ap, ◌∙◌}
use Rattle.model.specs.Reasons.{lowered}
use Rattle.release.specs.Removes.{at_total, out_holds}
use Rattle.release.proofs.let_out.Goals as goal

pub take_out-requires : goal.take_out-requires
take_out-requires c =
    let a = c.args in
    let p = c.requires in
    (p.0, (p.1.1.0, at_total a.clock a.words.now p.1.0 a.at p.1.1.0))

pub returns : goal.returns
returns c =
    let a = c.args in
    let p = c.requires in
    out_holds a.words.now c.take_out.new.words c.reset_owner_queue_start.new.words c.set_frontier.new.words a.at a.reason a.clock c.lowered-low.result a.e p.1.1.1
    (c.lowered-low.ensures ∙ ap (lowered a.reason a.e.height) c.get_frontier-f.ensures) c.take_out.ensures c.reset_owner_queue_start.ensures c.set_frontier.ensures

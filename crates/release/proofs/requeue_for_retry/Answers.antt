-- `release::requeue_for_retry` meets its contract. Assumes nothing.
use Rattle.model.specs.LettingGo.{remove_pending, requeue_for_retry}
use Rattle.model.specs.Layout.{window_of}
use Rattle.release.specs.Removes.{then_lowered}
use Rattle.release.proofs.requeue_for_retry.Goals as goal

pub returns : goal.returns
unfolding requeue_for_retry
returns c =
    let a = c.args in
    let d = c.remove_pending_by-n.ensures in
    (d.0, then_lowered (remove_pending a.h 3 a.clock (window_of a.words.now)) a.named c.remove_pending_by-n.new.words c.lower_to.new.words d.1 c.lower_to.ensures, d.2)

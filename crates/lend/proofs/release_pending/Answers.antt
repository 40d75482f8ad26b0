-- `lend::release_pending` meets its contract. Assumes nothing.
use Rattle.model.specs.Says.{let_go_says}
use Rattle.lend.proofs.Lends.{lends}
use Rattle.lend.proofs.release_pending.Goals as goal

pub returns : goal.returns
returns c = lends _ _ _ let_go_says _ _ _ _ _ _ _ c.unfilled-report.ensures c.with_report.ensures c.places_of-n.ensures c.release_pending-answer.ensures

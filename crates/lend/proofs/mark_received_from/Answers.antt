-- `lend::mark_received_from` meets its contract. Assumes nothing.
use Rattle.model.specs.Says.{received_says}
use Rattle.lend.proofs.Lends.{lends}
use Rattle.lend.proofs.mark_received_from.Goals as goal

pub returns : goal.returns
returns c = lends _ _ _ received_says _ _ _ _ _ _ _ c.unfilled-report.ensures c.with_report.ensures c.places_of-n.ensures c.mark_received_from-answer.ensures

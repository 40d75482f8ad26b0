-- `lend::reject_delivery` meets its contract. Assumes nothing.
use Rattle.model.specs.Says.{rejected_says}
use Rattle.lend.proofs.Lends.{lends}
use Rattle.lend.proofs.reject_delivery.Goals as goal

pub returns : goal.returns
returns c = lends _ _ _ rejected_says _ _ _ _ _ _ _ c.unfilled-report.ensures c.with_report.ensures c.places_of-n.ensures c.reject_delivery-answer.ensures

-- `lend::next_peer_request_allowing_retry` meets its contract. Assumes nothing.
use Rattle.model.specs.Says.{next_request_says}
use Rattle.lend.proofs.Lends.{lends_planned}
use Rattle.lend.proofs.next_peer_request_allowing_retry.Goals as goal

pub returns : goal.returns
returns c = lends_planned _ _ _ next_request_says _ _ _ _ _ _ _ c.unfilled-report.ensures c.with_report.ensures c.places_of-n.ensures _ _ _ _ c.next_peer_request_allowing_retry-answer.ensures

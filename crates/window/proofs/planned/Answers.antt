-- `window::planned` meets its contract: the core's promise, by the laws of every call that plans. Assumes nothing.
use native.Mathlib.Omega.{arith}
use Rattle.letting_go.specs.Letting.{lets_fewer}
use Rattle.plan_calls.specs.Plans.{plans_performs}
use Rattle.window.proofs.planned.Goals as goal

pub write_report-m-requires : goal.write_report-m-requires
write_report-m-requires c = lets_fewer _ _ _ _ _ _ _ c.next_peer_request-r.ensures.0 _ c.places_of-n.ensures (omega arith)

pub returns : goal.returns
returns c = plans_performs _ _ _ _ _ _ _ _ _ _ _ c.next_peer_request-r.ensures _ c.places_of-n.ensures _ c.write_report-m.ensures.1

-- `window::retain_owned_by` meets its contract: the core's promise, by the laws of every call that lets go. Assumes nothing.
use native.Mathlib.Omega.{arith}
use Rattle.letting_go.specs.Letting.{lets_fewer, lets_performs}
use Rattle.window.proofs.retain_owned_by.Goals as goal

pub write_report-m-requires : goal.write_report-m-requires
write_report-m-requires c = lets_fewer _ _ _ _ _ _ _ c.retain_owned_by-r.ensures _ c.places_of-n.ensures (omega arith)

pub returns : goal.returns
returns c = lets_performs _ _ _ _ _ _ _ c.retain_owned_by-r.ensures _ c.places_of-n.ensures _ c.write_report-m.ensures.1

-- `script::all_but` meets its contract: a peer that has no seat changes nothing. Assumes nothing.
use mathlib.Core.Path.{sym}
use native.Mathlib.Omega.{arith}
use lib.ListN.{replicate}
use lib.Seq.{set_out}
use Rattle.script.proofs.all_but.Goals as goal

pub returns-then-peer-ge-SEATS : goal.returns-then-peer-ge-SEATS
returns-then-peer-ge-SEATS c = sym (set_out (replicate 256 1) c.args.peer 0 (omega (arith, c.if-peer-ge-SEATS.true)))

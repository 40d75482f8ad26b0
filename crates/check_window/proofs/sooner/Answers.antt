-- `check_window::sooner` meets its contract: m - 1, wrapped, is above every time where m is none. Assumes nothing.
use Rattle.std.proofs.Common.{arith}
use Rattle.facts.specs.Bits.{sooner_new, sooner_old}
use Rattle.check_window.proofs.sooner.Goals as goal

pub returns-then-t-d : goal.returns-then-t-d
returns-then-t-d c = let f = c.wrapping_sub_u64-d in sooner_new c.args.t c.args.m f.result (omega arith) f.ensures.value c.if-t-d.true

pub returns : goal.returns
returns c = let f = c.wrapping_sub_u64-d in sooner_old c.args.t c.args.m f.result c.requires (omega arith) f.ensures.value c.if-t-d.false

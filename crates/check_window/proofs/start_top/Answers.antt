-- `check_window::start_top` meets its contract: the law on the four words. Assumes nothing.
use Rattle.std.proofs.Common.{arith}
use Rattle.facts.specs.Bits.{start_law}
use Rattle.check_window.proofs.start_top.Goals as goal

pub returns : goal.returns
returns c =
    let at = c in
    let o = c.over-o in
    let x = c.wrapping_sub_u64-x in
    let y = c.wrapping_sub_u64-y in
    let z = c.wrapping_sub_u64-z in
    start_law at.args.latest at.args.g at.args.a o.result x.result y.result z.result at.requires.0 at.requires.1
    (omega arith) (omega arith) (omega arith) o.ensures x.ensures.value y.ensures.value z.ensures.value

-- `check_window::over` meets its contract: the law on the top bit of x and of max - x. Assumes nothing.
use Rattle.std.proofs.Common.{arith}
use Rattle.facts.specs.Bits.{over_law}
use Rattle.check_window.proofs.over.Goals as goal

pub returns : goal.returns
returns c = over_law c.args.max c.args.x c.wrapping_sub_u64.result c.requires c.ranges.x.fits (omega arith) c.wrapping_sub_u64.ensures.value

-- `probe_race::bit_of` meets its contract. Assumes nothing.
use native.Mathlib.Omega.{arith}
use Rattle.probe_race.specs.Bits.{bit_is}
use Rattle.probe_race.proofs.bit_of.Goals as goal

pub overflow_shl-result : goal.overflow_shl-result
overflow_shl-result c = omega (arith, c.requires)

pub returns : goal.returns
returns c = bit_is c.args.i c.requires

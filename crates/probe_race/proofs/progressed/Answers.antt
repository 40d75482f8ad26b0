-- `probe_race::progressed` meets its contract. Assumes nothing.
use Prim.Native.Nat.{◌-◌}
use native.Mathlib.Omega.{arith}
use Rattle.probe_race.specs.Bits.{or_byte, not_progressed, progressed_by}
use Rattle.probe_race.proofs.progressed.Goals as goal

pub returns-then-racer-eq0 : goal.returns-then-racer-eq0
returns-then-racer-eq0 c = not_progressed c.args.i c.args.racer c.if-racer-eq0.true

pub overflow_sub-result : goal.overflow_sub-result
overflow_sub-result c = omega (arith, c.if-racer-eq0.false)

pub overflow_add-result : goal.overflow_add-result
overflow_add-result c = omega (arith, or_byte (c.args.racer - 1) c.args.bit (omega arith) c.requires.1.0)

pub returns : goal.returns
returns c = progressed_by c.args.i c.args.bit c.args.racer (omega (arith, c.if-racer-eq0.false)) c.requires.0

-- `probe_race::has_won` meets its contract. Assumes nothing.
use native.Mathlib.Omega.{arith}
use Rattle.probe_race.specs.Bits.{not_won, won_by}
use Rattle.probe_race.proofs.has_won.Goals as goal

pub returns-then-racer-eq0 : goal.returns-then-racer-eq0
returns-then-racer-eq0 c = not_won c.args.racer c.if-racer-eq0.true

pub overflow_sub-racer : goal.overflow_sub-racer
overflow_sub-racer c = omega (arith, c.if-racer-eq0.false)

pub returns : goal.returns
returns c = won_by c.args.racer c.all_four.result (omega (arith, c.if-racer-eq0.false)) c.all_four.ensures

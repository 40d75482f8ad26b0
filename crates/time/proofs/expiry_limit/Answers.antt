-- `time::expiry_limit` meets its contract. Assumes nothing.
use native.Mathlib.Omega.{arith}
use borrow.Author.Tests.{eq-eqb, ne_eqb}
use Rattle.time.specs.Limit.{expiry_limit}
use Rattle.time.proofs.expiry_limit.Goals as goal

pub returns-then-timeout-eq0 : goal.returns-then-timeout-eq0
unfolding expiry_limit
returns-then-timeout-eq0 c = rw (eq-eqb c.args.timeout 0 (omega (arith, c.if-timeout-eq0.true)))

pub returns : goal.returns
unfolding expiry_limit
returns c = rw (ne_eqb c.args.timeout 0 (λ e. c.if-timeout-eq0.false (omega (arith, e)))) (omega (arith, c.saturating_sub.ensures))

-- `plan_calls::lists_refused_by` meets its contract. Assumes nothing.
use native.Mathlib.Omega.{arith}
use Rattle.plan_calls.specs.Refused.{lists_12, few_words_10, few_heights_10, lists_0}
use Rattle.plan_calls.proofs.lists_refused_by.Goals as goal

pub returns-then-chain-tip : goal.returns-then-chain-tip
returns-then-chain-tip c w = let a = c.args in lists_12 a.chain a.tip a.hashes a.heights w (λ e. c.if-chain-tip.true (omega (arith, e)))

pub returns-then-hashes-lt-PLAN_WORDS : goal.returns-then-hashes-lt-PLAN_WORDS
returns-then-hashes-lt-PLAN_WORDS c w =
    let a = c.args in
    few_words_10 a.chain a.tip a.hashes a.heights w (omega (arith, c.if-chain-tip.false)) (omega (arith, c.if-hashes-lt-PLAN_WORDS.true))

pub returns-then-heights-lt-PLACES : goal.returns-then-heights-lt-PLACES
returns-then-heights-lt-PLACES c w =
    let a = c.args in
    few_heights_10 a.chain a.tip a.hashes a.heights w (omega (arith, c.if-chain-tip.false)) (omega (arith, c.if-hashes-lt-PLAN_WORDS.false)) (omega (arith, c.if-heights-lt-PLACES.true))

pub returns : goal.returns
returns c w =
    let a = c.args in
    lists_0 a.chain a.tip a.hashes a.heights w (omega (arith, c.if-chain-tip.false)) (omega (arith, c.if-hashes-lt-PLAN_WORDS.false)) (omega (arith, c.if-heights-lt-PLACES.false))

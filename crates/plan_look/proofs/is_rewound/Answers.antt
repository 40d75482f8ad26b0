-- `plan_look::is_rewound` meets its contract. Assumes nothing.
use Rattle.model.specs.Layout.{window_of}
use Rattle.plan_look.specs.Steps.{back_below, back_none, back_open}
use Rattle.plan_look.proofs.is_rewound.Goals as goal

pub returns-then-frontier-start : goal.returns-then-frontier-start
returns-then-frontier-start c =
    let a = c.args in
    let w = window_of a.words.now in
    back_below w.queue.pending a.chain.now a.staged.hashes.now a.start w.frontier _ c.get_frontier-frontier.ensures c.if-frontier-start.true

pub returns-then-chain-at : goal.returns-then-chain-at
returns-then-chain-at c =
    let a = c.args in
    let w = window_of a.words.now in
    back_none w.queue.pending a.chain.now a.staged.hashes.now a.start w.frontier _ c.get_frontier-frontier.ensures c.if-chain-at.true

pub returns : goal.returns
returns c =
    let a = c.args in
    let w = window_of a.words.now in
    back_open w.queue.pending a.chain.now a.staged.hashes.now a.start w.frontier _ c.get_frontier-frontier.ensures c.if-frontier-start.false c.if-chain-at.false _ _ c.hash_in-h.ensures c.is_open.ensures

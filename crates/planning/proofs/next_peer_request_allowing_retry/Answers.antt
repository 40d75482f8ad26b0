-- `planning::next_peer_request_allowing_retry` meets its contract. Assumes nothing.
use native.Mathlib.Omega.{arith}
use Rattle.planning.specs.Proposes.{lent_by}
use Rattle.planning.specs.Swept.{swept_sound, retry_planned, retry_exhausted}
use Rattle.planning.proofs.next_peer_request_allowing_retry.Goals as goal

pub returns-then-given : goal.returns-then-given
returns-then-given c =
    let a = c.args in
    retry_exhausted a.source a.clock (lent_by a.given) a.words.now a.gone.now a.hashes.now a.heights.now c.requires.0 _ c.no_request.ensures c.if-given.true

pub request_after-requires : goal.request_after-requires
request_after-requires c =
    let a = c.args in
    let x = c.expire_pending-n in
    swept_sound a.source a.clock x.result a.words.now x.new.words x.new.gone x.ensures.1 x.ensures.2
    a.hashes.now a.heights.now a.gone.now (lent_by a.given) c.requires x.ensures.0 (omega arith)

pub returns : goal.returns
returns c =
    let y = c.request_after in
    let a = c.args in
    let x = c.expire_pending-n in
    retry_planned a.source a.clock x.result a.words.now x.new.words x.new.gone x.ensures.1 x.ensures.2 (lent_by a.given) c.if-given.false
    y.result y.new.words a.hashes.now y.new.hashes a.heights.now y.new.heights (y.ensures a.given.exhausted)

-- `planning::next_peer_request` meets its contract. Assumes nothing.
use Rattle.std.proofs.Common.{Bool, sym, subst, arith}
use Rattle.model.specs.Cooling.{key_of}
use Rattle.model.specs.Planning.{Proposal}
use Rattle.model.specs.Layout.{window_of}
use Rattle.planning.specs.Proposes.{lent_by, planned_by, Proposes}
use Rattle.planning.specs.Swept.{request_expired, request_cooling, request_free}
use Rattle.planning.proofs.next_peer_request.Goals as goal

pub returns-then-retry : goal.returns-then-retry
returns-then-retry c =
    let a = c.args in
    let z = c.next_peer_request_allowing_retry in
    subst (λ (b : Bool). Proposes (planned_by b a.source (lent_by a.given) a.clock (window_of a.words.now)) z.result z.new.words z.new.gone a.hashes.now z.new.hashes a.heights.now z.new.heights)
    (sym c.if-retry.true) z.ensures

pub returns-then-expired : goal.returns-then-expired
returns-then-expired c =
    let x = c.peer_has_expired_pending-expired in
    let a = c.args in
    rw c.if-retry.false
    (request_expired a.source a.clock (lent_by a.given) a.words.now a.gone.now a.hashes.now a.heights.now c.requires.0 _ c.no_request.ensures x.result x.ensures c.if-expired.true)

pub in_cooldown-cooling-requires : goal.in_cooldown-cooling-requires
unfolding key_of
in_cooldown-cooling-requires c = (omega (arith, c.requires.6), c.requires.1.clock, c.requires.1.keys.most c.args.source)

pub returns-then-cooling : goal.returns-then-cooling
returns-then-cooling c =
    let y = c.in_cooldown-cooling in
    let x = c.peer_has_expired_pending-expired in
    let a = c.args in
    rw c.if-retry.false
    (request_cooling a.source a.clock (lent_by a.given) a.words.now a.gone.now a.hashes.now a.heights.now c.requires.0 x.result y.result x.ensures y.ensures
    c.if-expired.false _ c.no_request-then-cooling.ensures c.if-cooling.true)

pub returns : goal.returns
returns c =
    let z = c.next_peer_request_allowing_retry-2 in
    let y = c.in_cooldown-cooling in
    let x = c.peer_has_expired_pending-expired in
    let a = c.args in
    rw c.if-retry.false
    (subst (λ (p : Proposal). Proposes p z.result z.new.words z.new.gone a.hashes.now z.new.hashes a.heights.now z.new.heights)
    (request_free a.source a.clock (lent_by a.given) a.words.now a.gone.now a.hashes.now a.heights.now c.requires.0 x.result y.result x.ensures y.ensures
    c.if-expired.false c.if-cooling.false) z.ensures)

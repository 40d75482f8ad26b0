-- `played::make` meets its contract. Assumes nothing.
use mathlib.Core.Path.{refl}
use Rattle.lend.specs.Goes.{quiet_change, quiet_opening}
use Rattle.played.specs.Told.{plays_step, step_doing, step_letting}
use Rattle.played.proofs.make.Goals as goal

pub returns-in-MarkRequested : goal.returns-in-MarkRequested
returns-in-MarkRequested c =
    let a = c.args in
    plays_step a.s a.p a.hashes.now a.heights.now c.in-MarkRequested.is _ _ _ _ c.ask.ensures

pub returns-in-MarkOwnedFetch : goal.returns-in-MarkOwnedFetch
returns-in-MarkOwnedFetch c =
    let a = c.args in
    plays_step a.s a.p a.hashes.now a.heights.now c.in-MarkOwnedFetch.is _ _ _ _ c.fetch.ensures

pub returns-in-MarkReceivedFrom : goal.returns-in-MarkReceivedFrom
returns-in-MarkReceivedFrom c =
    let a = c.args in
    plays_step a.s a.p a.hashes.now a.heights.now c.in-MarkReceivedFrom.is _ _ _ _ c.receive.ensures

pub returns-in-RejectDelivery : goal.returns-in-RejectDelivery
returns-in-RejectDelivery c =
    let a = c.args in
    plays_step a.s a.p a.hashes.now a.heights.now c.in-RejectDelivery.is _ _ _ _ c.reject.ensures

pub returns-in-ExpirePending : goal.returns-in-ExpirePending
returns-in-ExpirePending c =
    let a = c.args in
    step_letting a.s a.p a.hashes.now a.heights.now c.in-ExpirePending.is _ refl _ _ _ _ _ _ _ c.expire_pending.ensures c.let_go.ensures

pub returns-in-RequeueForRetry : goal.returns-in-RequeueForRetry
returns-in-RequeueForRetry c =
    let a = c.args in
    step_letting a.s a.p a.hashes.now a.heights.now c.in-RequeueForRetry.is _ refl _ _ _ _ _ _ _ c.requeue_for_retry.ensures c.let_go-in-RequeueForRetry.ensures

pub returns-in-ReleasePending : goal.returns-in-ReleasePending
returns-in-ReleasePending c =
    let a = c.args in
    step_letting a.s a.p a.hashes.now a.heights.now c.in-ReleasePending.is _ refl _ _ _ _ _ _ _ c.release_pending.ensures c.let_go-in-ReleasePending.ensures

pub returns-in-RetireBefore : goal.returns-in-RetireBefore
returns-in-RetireBefore c =
    let a = c.args in
    step_letting a.s a.p a.hashes.now a.heights.now c.in-RetireBefore.is _ refl _ _ _ _ _ _ _ c.retire_before.ensures c.let_go-in-RetireBefore.ensures

pub returns-in-RetainOwnedBy : goal.returns-in-RetainOwnedBy
returns-in-RetainOwnedBy c =
    let a = c.args in
    step_letting a.s a.p a.hashes.now a.heights.now c.in-RetainOwnedBy.is _ refl _ _ _ _ _ _ _ c.keep.ensures c.let_go-in-RetainOwnedBy.ensures

pub returns-in-ObserveBlocked : goal.returns-in-ObserveBlocked
returns-in-ObserveBlocked c =
    let a = c.args in
    plays_step a.s a.p a.hashes.now a.heights.now c.in-ObserveBlocked.is _ _ _ _ c.look.ensures

pub returns-in-ConfirmColdFrontHedge : goal.returns-in-ConfirmColdFrontHedge
returns-in-ConfirmColdFrontHedge c =
    let a = c.args in
    step_doing a.s a.p a.hashes.now a.heights.now c.in-ConfirmColdFrontHedge.is _ refl (quiet_change _ refl) _ _ _ _ _ c.confirm_cold_front_hedge.ensures c.done.ensures

pub returns-in-ConfirmPrefixProbe : goal.returns-in-ConfirmPrefixProbe
returns-in-ConfirmPrefixProbe c =
    let a = c.args in
    step_doing a.s a.p a.hashes.now a.heights.now c.in-ConfirmPrefixProbe.is _ refl (quiet_change _ refl) _ _ _ _ _ c.probe.ensures c.done-in-ConfirmPrefixProbe.ensures

pub returns-in-SetFanoutEligiblePeers : goal.returns-in-SetFanoutEligiblePeers
returns-in-SetFanoutEligiblePeers c =
    let a = c.args in
    step_doing a.s a.p a.hashes.now a.heights.now c.in-SetFanoutEligiblePeers.is _ refl (quiet_change _ refl) _ _ _ _ _ c.set_fanout_eligible_peers.ensures c.done-in-SetFanoutEligiblePeers.ensures

pub returns-in-ClearPreferredPeer : goal.returns-in-ClearPreferredPeer
returns-in-ClearPreferredPeer c =
    let a = c.args in
    step_doing a.s a.p a.hashes.now a.heights.now c.in-ClearPreferredPeer.is _ refl (quiet_change _ refl) _ _ _ _ _ c.clear_preferred_peer.ensures c.done-in-ClearPreferredPeer.ensures

pub returns-in-Open : goal.returns-in-Open
returns-in-Open c =
    let a = c.args in
    step_doing a.s a.p a.hashes.now a.heights.now c.in-Open.is _ refl (quiet_opening _ _ _) _ _ _ _ _ c.«open».ensures c.done-in-Open.ensures

pub returns-in-NextPeerRequest : goal.returns-in-NextPeerRequest
returns-in-NextPeerRequest c =
    let a = c.args in
    step_doing a.s a.p a.hashes.now a.heights.now c.in-NextPeerRequest.is _ refl (quiet_opening _ _ _) _ _ _ _ _ c.open-in-NextPeerRequest.ensures c.done-in-NextPeerRequest.ensures

pub returns-in-Other : goal.returns-in-Other
returns-in-Other c =
    let a = c.args in
    step_doing a.s a.p a.hashes.now a.heights.now c.in-Other.is _ refl (quiet_opening _ _ _) _ _ _ _ _ c.open-in-Other.ensures c.done-in-Other.ensures

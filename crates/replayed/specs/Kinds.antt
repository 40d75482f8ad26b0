-- Which call a recorded number is: the numbers of crates/kofudile/API.md. A number that names no call is made as 18, or from 50 on as 49. Definitions only.
use Rattle.std.specs.Prelude.{cond, List, [], ◌∷◌, ℕ, ltb}
use Rattle.lend.specs.Cases.{pick}
use Rattle.replayed.specs.declared.kinds.Kind.{Kind}
use Rattle.replayed.specs.declared.kinds.Kind.TheVariants.{Done, Request, Fetch, Receive, Reject, LetGo, Look, Ask}
use Rattle.replayed.specs.declared.kinds.Doing.TheVariants.{Open, CreditDuplicateDelivery, MarkPeerUnresponsive, ConfirmPrefixProbe, ConfirmColdFrontHedge, SetFanoutEligiblePeers, ClearPreferredPeer}
use Rattle.replayed.specs.declared.kinds.Letting.TheVariants.{CreditDeliveryFrom, ExpirePending, RequeueForRetry, ReleasePending, RetireBefore, RetainOwnedBy}
use Rattle.replayed.specs.declared.kinds.Asked.{Asked}
use Rattle.replayed.specs.declared.kinds.Asked.TheVariants.{Number, Truth, Pair, PerhapsPair, Perhaps, Plan}
use Rattle.replayed.specs.declared.kinds.AsksNumber.TheVariants.{PendingLen, PendingBytes, EffectivePeerInflight, ActiveDownloadingPeers, StallDecayFloor, RequestCursor, EwmaBlockBytes, EffectiveOwnerTimeout, StallTimeout, MaxPendingBlocks, MinPeersForFanout, PendingCountFor}
use Rattle.replayed.specs.declared.kinds.AsksTruth.TheVariants.{FanoutActive, HasRequestCapacity, IsDownloading, ContainsPending, HedgeOffered, ProbeOffered, PeerHasExpiredPending, PeerInStallerCooldown}
use Rattle.replayed.specs.declared.kinds.AsksPair.TheVariants.{PendingHighWater, ExpiredPendingCapacity}
use Rattle.replayed.specs.declared.kinds.AsksPerhapsPair.TheVariants.{StallingPeer, ComputeRequestCapacity}
use Rattle.replayed.specs.declared.kinds.AsksPerhaps.TheVariants.{PreferredPeer, PendingOwner, OwnerQueueStart, FrontIntervalEwmaMs, ActivePrefixProbeStartedAt}
use Rattle.replayed.specs.declared.kinds.PlanPart.TheVariants.{Numbers, Hashes}

abbrev pub calls_numbered : List (ℕ × Kind)
calls_numbered =
    (1, Done Open)
    ∷ (2, Request)
    ∷ (3, Fetch)
    ∷ (4, Receive)
    ∷ (5, LetGo CreditDeliveryFrom)
    ∷ (6, Done CreditDuplicateDelivery)
    ∷ (7, Reject)
    ∷ (8, LetGo ExpirePending)
    ∷ (9, LetGo RequeueForRetry)
    ∷ (10, LetGo ReleasePending)
    ∷ (11, LetGo RetireBefore)
    ∷ (12, LetGo RetainOwnedBy)
    ∷ (13, Done MarkPeerUnresponsive)
    ∷ (14, Done ConfirmPrefixProbe)
    ∷ (15, Done ConfirmColdFrontHedge)
    ∷ (16, Look)
    ∷ (17, Done SetFanoutEligiblePeers)
    ∷ []

abbrev pub other_call : Kind
other_call = Done ClearPreferredPeer

-- 48 asks for the plan's numbers, 49 for the words of its hashes
abbrev pub queries_numbered : List (ℕ × Asked)
queries_numbered =
    (19, Number PendingLen)
    ∷ (20, Number PendingBytes)
    ∷ (21, Number EffectivePeerInflight)
    ∷ (22, Number ActiveDownloadingPeers)
    ∷ (23, Number StallDecayFloor)
    ∷ (24, Number RequestCursor)
    ∷ (25, Number EwmaBlockBytes)
    ∷ (26, Number EffectiveOwnerTimeout)
    ∷ (27, Number StallTimeout)
    ∷ (28, Number MaxPendingBlocks)
    ∷ (29, Number MinPeersForFanout)
    ∷ (30, Truth FanoutActive)
    ∷ (31, Truth HasRequestCapacity)
    ∷ (32, Number PendingCountFor)
    ∷ (33, Truth IsDownloading)
    ∷ (34, Truth ContainsPending)
    ∷ (35, Truth HedgeOffered)
    ∷ (36, Truth ProbeOffered)
    ∷ (37, Truth PeerHasExpiredPending)
    ∷ (38, Truth PeerInStallerCooldown)
    ∷ (39, Pair PendingHighWater)
    ∷ (40, Pair ExpiredPendingCapacity)
    ∷ (41, PerhapsPair StallingPeer)
    ∷ (42, PerhapsPair ComputeRequestCapacity)
    ∷ (43, Perhaps PreferredPeer)
    ∷ (44, Perhaps PendingOwner)
    ∷ (45, Perhaps OwnerQueueStart)
    ∷ (46, Perhaps FrontIntervalEwmaMs)
    ∷ (47, Perhaps ActivePrefixProbeStartedAt)
    ∷ (48, Plan Numbers)
    ∷ []

abbrev pub other_query : Asked
other_query = Plan Hashes

unfoldable pub kind_of : ℕ → Kind
kind_of n = cond (ltb n 19) (pick calls_numbered other_call n) (Ask (pick queries_numbered other_query n))

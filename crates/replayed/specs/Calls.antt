-- The call that a record stands for, with its arguments (in the order of crates/kofudile/API.md), and the row that its answer makes. Definitions only.
use Rattle.std.specs.Prelude.{◌≡◌, List, ℕ}
use Rattle.std.specs.Bool.{then_some}
use Rattle.model.specs.Queries.{Query, reads, preferred_peer, probe_plan, probe_start, front_interval_ewma_ms, asks_owner, asks_queue_start, asks_compute_capacity, asks_probe_offered, pending_len, pending_bytes, asks_expired_capacity, stall_timeout, max_pending_blocks, min_peers_for_fanout, fanout_active, pending_high_water, stalling_peer, peer_inflight, active_peers, decay_floor, request_cursor, ewma_block_bytes, asks_request_capacity, asks_contains, asks_count_for, asks_downloading, owner_timeout, asks_hedge_offered, asks_has_expired, asks_cooldown}
use Rattle.model.specs.Refusals.{Change, Call, opens, changes, queries, requests, fetches, receives, credits, credits_duplicate, rejects, expires, requeues, releases, retires, retains, marks_unresponsive, confirms_probe, confirms_hedge, observes, sets_fanout, clears_preferred}
use Rattle.model.specs.Perform.{Answer, perform}
use Rattle.flat.specs.Flat.{done_flat, number_flat, pair_flat, perhaps_flat, perhaps_pair_flat, gone_flat, received_flat, rejected_flat, blocked_flat, plan_flat}
use Rattle.observation.specs.Look.{look}
use Rattle.letting_go.specs.Letting.{places}
use Rattle.report_words.specs.Report.{releases_of}
use Rattle.lend.specs.Blank.{none_filled}
use Rattle.model.specs.declared.Hash.{Hash}
use Rattle.recorded.specs.Stream.{on, nth, low, is_set, hash_from, perhaps, perhaps_height}
use Rattle.recorded.specs.Args.{opening_at, words_at, behind_words, flags_at}
use Rattle.recorded.specs.Said.{done_row, number_row, pair_row, perhaps_row, perhaps_pair_row, gone_row, received_row, rejected_row, plan_row, blocked_row}
use Rattle.recorded.specs.declared.Said.{Said}
use Rattle.replayed.specs.Kinds.{kind_of}
use Rattle.replayed.specs.declared.kinds.Kind.{Kind}
use Rattle.replayed.specs.declared.kinds.Doing.{Doing}
use Rattle.replayed.specs.declared.kinds.Letting.{Letting}
use Rattle.replayed.specs.declared.kinds.Asked.{Asked}
use Rattle.replayed.specs.declared.kinds.AsksNumber.{AsksNumber}
use Rattle.replayed.specs.declared.kinds.AsksTruth.{AsksTruth}
use Rattle.replayed.specs.declared.kinds.AsksPair.{AsksPair}
use Rattle.replayed.specs.declared.kinds.AsksPerhapsPair.{AsksPerhapsPair}
use Rattle.replayed.specs.declared.kinds.AsksPerhaps.{AsksPerhaps}
use Rattle.replayed.specs.declared.kinds.PlanPart.{PlanPart}
use Rattle.replayed.specs.declared.kinds.Kind.TheVariants.{Done, Request, Fetch, Receive, Reject, LetGo, Look, Ask}
use Rattle.replayed.specs.declared.kinds.Doing.TheVariants.{Open, CreditDuplicateDelivery, MarkPeerUnresponsive, ConfirmPrefixProbe, ConfirmColdFrontHedge, SetFanoutEligiblePeers, ClearPreferredPeer}
use Rattle.replayed.specs.declared.kinds.Letting.TheVariants.{CreditDeliveryFrom, ExpirePending, RequeueForRetry, ReleasePending, RetireBefore, RetainOwnedBy}
use Rattle.replayed.specs.declared.kinds.Asked.TheVariants.{Number, Truth, Pair, PerhapsPair, Perhaps, Plan}
use Rattle.replayed.specs.declared.kinds.AsksNumber.TheVariants.{PendingLen, PendingBytes, EffectivePeerInflight, ActiveDownloadingPeers, StallDecayFloor, RequestCursor, EwmaBlockBytes, EffectiveOwnerTimeout, StallTimeout, MaxPendingBlocks, MinPeersForFanout, PendingCountFor}
use Rattle.replayed.specs.declared.kinds.AsksTruth.TheVariants.{FanoutActive, HasRequestCapacity, IsDownloading, ContainsPending, HedgeOffered, ProbeOffered, PeerHasExpiredPending, PeerInStallerCooldown}
use Rattle.replayed.specs.declared.kinds.AsksPair.TheVariants.{PendingHighWater, ExpiredPendingCapacity}
use Rattle.replayed.specs.declared.kinds.AsksPerhapsPair.TheVariants.{StallingPeer, ComputeRequestCapacity}
use Rattle.replayed.specs.declared.kinds.AsksPerhaps.TheVariants.{PreferredPeer, PendingOwner, OwnerQueueStart, FrontIntervalEwmaMs, ActivePrefixProbeStartedAt}
use Rattle.replayed.specs.declared.kinds.PlanPart.TheVariants.{Numbers, Hashes}

-- a call, and which row of words an answer of it is
pub record Recorded : Type 0 where
  pub call : Call
  pub row_of : Answer → List ℕ

abbrev pub says_done : Call → Recorded
says_done c = record { call = c; row_of = λ a. done_row (done_flat a) }

abbrev pub says_number : Call → Recorded
says_number c = record { call = c; row_of = λ a. number_row (number_flat a) }

abbrev pub says_gone : Change → Recorded
says_gone x = record { call = changes x; row_of = λ a. gone_row (gone_flat a) }

-- a query, in the same way
pub record Question : Type 0 where
  pub query : Query
  pub row_of : Answer → List ℕ

abbrev pub says_asked : Question → Recorded
says_asked q = record { call = queries q.query; row_of = q.row_of }

abbrev pub asks_number : Query → Question
asks_number q = record { query = q; row_of = λ a. number_row (number_flat a) }

abbrev pub asks_pair : Query → Question
asks_pair q = record { query = q; row_of = λ a. pair_row (pair_flat a) }

abbrev pub asks_perhaps_pair : Query → Question
asks_perhaps_pair q = record { query = q; row_of = λ a. perhaps_pair_row (perhaps_pair_flat a) }

abbrev pub asks_perhaps : Query → Question
asks_perhaps q = record { query = q; row_of = λ a. perhaps_row (perhaps_flat a) }

-- ---- the queries

module _ (ns : List ℕ) (place : ℕ) where
  -- the k-th argument, and the hash that begins with it
  abbrev pub arg : ℕ → ℕ
  arg k = nth ns place k

  abbrev pub hash_arg : ℕ → Hash
  hash_arg k = hash_from ns (on place k)

  abbrev pub number_query : AsksNumber → Query
  number_query PendingLen = reads pending_len
  number_query PendingBytes = reads pending_bytes
  number_query EffectivePeerInflight = reads peer_inflight
  number_query ActiveDownloadingPeers = reads active_peers
  number_query StallDecayFloor = reads decay_floor
  number_query RequestCursor = reads request_cursor
  number_query EwmaBlockBytes = reads ewma_block_bytes
  number_query EffectiveOwnerTimeout = reads owner_timeout
  number_query StallTimeout = reads stall_timeout
  number_query MaxPendingBlocks = reads max_pending_blocks
  number_query MinPeersForFanout = reads min_peers_for_fanout
  number_query PendingCountFor = asks_count_for (arg 0)

  abbrev pub truth_query : AsksTruth → Query
  truth_query FanoutActive = reads fanout_active
  truth_query HasRequestCapacity = asks_request_capacity (arg 0) (arg 1)
  truth_query IsDownloading = asks_downloading (arg 0)
  truth_query ContainsPending = asks_contains (hash_arg 0)
  truth_query HedgeOffered = asks_hedge_offered (arg 0) (hash_arg 1)
  truth_query ProbeOffered = asks_probe_offered (arg 0) (hash_arg 1)
  truth_query PeerHasExpiredPending = asks_has_expired (arg 0) (arg 1)
  truth_query PeerInStallerCooldown = asks_cooldown (arg 0) (arg 1)

  abbrev pub pair_query : AsksPair → Query
  pair_query PendingHighWater = reads pending_high_water
  pair_query ExpiredPendingCapacity = asks_expired_capacity (arg 0)

  abbrev pub perhaps_pair_query : AsksPerhapsPair → Query
  perhaps_pair_query StallingPeer = reads stalling_peer
  perhaps_pair_query ComputeRequestCapacity = asks_compute_capacity (arg 0) (arg 1) (arg 2)

  abbrev pub perhaps_query : AsksPerhaps → Query
  perhaps_query PreferredPeer = reads preferred_peer
  perhaps_query PendingOwner = asks_owner (hash_arg 0)
  perhaps_query OwnerQueueStart = asks_queue_start (arg 0)
  perhaps_query FrontIntervalEwmaMs = reads front_interval_ewma_ms
  perhaps_query ActivePrefixProbeStartedAt = reads probe_start

-- the plan's numbers, or the words of its hashes
abbrev pub plan_part : PlanPart → Answer → List ℕ
plan_part Numbers a = plan_row (plan_flat a)
plan_part Hashes a = (plan_flat a).hashes

abbrev pub question : List ℕ → ℕ → Asked → Question
question ns place (Number k) = asks_number (number_query ns place k)
question ns place (Truth k) = asks_number (truth_query ns place k)
question ns place (Pair k) = asks_pair (pair_query ns place k)
question ns place (PerhapsPair k) = asks_perhaps_pair (perhaps_pair_query ns place k)
question ns place (Perhaps k) = asks_perhaps (perhaps_query ns place k)
question ns place (Plan k) = record { query = reads probe_plan; row_of = plan_part k }

-- ---- the calls

abbrev pub opening : List ℕ → ℕ → Call
opening ns place = let o = opening_at ns place in opens o.clock o.settings o.keys

module _ (ns : List ℕ) (place : ℕ) where
  abbrev pub confirming : Change
  confirming = confirms_probe (arg ns place 1) (arg ns place 0) (words_at 2 ns place) (behind_words (λ n. n) 2 ns place)

  -- those that are done or refused
  abbrev pub doing : Doing → Call
  doing Open = opening ns place
  doing CreditDuplicateDelivery = changes (credits_duplicate (hash_arg ns place 0) (arg ns place 4))
  doing MarkPeerUnresponsive = changes (marks_unresponsive (arg ns place 1) (arg ns place 0))
  doing ConfirmPrefixProbe = changes confirming
  doing ConfirmColdFrontHedge = changes (confirms_hedge (arg ns place 0) (arg ns place 1) (hash_arg ns place 2))
  doing SetFanoutEligiblePeers = changes (sets_fanout (arg ns place 1) (arg ns place 0))
  doing ClearPreferredPeer = changes clears_preferred

  abbrev pub requesting : Change
  requesting =
      requests (arg ns place 4) (arg ns place 0) (words_at 5 ns place) (behind_words low 5 ns place) (low (arg ns place 1)) (arg ns place 2) (arg ns place 3)

  abbrev pub fetching : Change
  fetching = fetches (arg ns place 9) (arg ns place 0) (hash_arg ns place 1) (low (arg ns place 5)) (is_set (arg ns place 6)) (arg ns place 7) (arg ns place 8)

  abbrev pub looking : Change
  looking =
      observes (arg ns place 11)
      (look (perhaps_height ns place 0) (then_some (is_set (arg ns place 2)) (hash_arg ns place 3)) (is_set (arg ns place 7)) (arg ns place 8) (perhaps_height ns place 9))

  abbrev pub receiving : Change
  receiving = receives (arg ns place 7) (hash_arg ns place 0) (arg ns place 4) (perhaps ns place 5)

  abbrev pub rejecting : Change
  rejecting = rejects (arg ns place 6) (hash_arg ns place 0) (perhaps ns place 4)

  -- those that answer only how much they let go
  abbrev pub letting : Letting → Change
  letting CreditDeliveryFrom = credits (arg ns place 7) (hash_arg ns place 0) (arg ns place 4) (perhaps_height ns place 5)
  letting ExpirePending = expires (arg ns place 0)
  letting RequeueForRetry = requeues (arg ns place 6) (hash_arg ns place 0) (perhaps_height ns place 4)
  letting ReleasePending = releases (arg ns place 4) (hash_arg ns place 0)
  letting RetireBefore = retires (arg ns place 1) (low (arg ns place 0))
  letting RetainOwnedBy = retains (flags_at ns place)

-- ---- every call

abbrev pub says_received : Change → Recorded
says_received x = record { call = changes x; row_of = λ a. received_row (received_flat a) }

abbrev pub says_rejected : Change → Recorded
says_rejected x = record { call = changes x; row_of = λ a. rejected_row (rejected_flat a) }

abbrev pub says_blocked : Change → Recorded
says_blocked x = record { call = changes x; row_of = λ a. blocked_row (blocked_flat a) }

abbrev pub told : List ℕ → ℕ → Kind → Recorded
told ns place (Done k) = says_done (doing ns place k)
told ns place Request = says_number (changes (requesting ns place))
told ns place Fetch = says_number (changes (fetching ns place))
told ns place Receive = says_received (receiving ns place)
told ns place Reject = says_rejected (rejecting ns place)
told ns place (LetGo k) = says_gone (letting ns place k)
told ns place Look = says_blocked (looking ns place)
told ns place (Ask k) = says_asked (question ns place k)

-- by its number
abbrev pub call_at : List ℕ → ℕ → ℕ → Recorded
call_at ns place number = told ns place (kind_of number)

-- THE PROMISE: a call is made with a report of 256 places, none of them filled, and all that it says, reports and leaves is what `perform` has
abbrev pub Performs : Recorded → List ℕ → List ℕ → Said → Type 0
Performs t ws ws' r =
    (r.fields ≡ t.row_of (perform t.call ws none_filled).answer)
    × (r.places ≡ places (perform t.call ws none_filled).answer)
    × (releases_of 256 r.gone ≡ (perform t.call ws none_filled).report)
    × (ws' ≡ (perform t.call ws none_filled).words)

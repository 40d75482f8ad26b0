-- The words of the demo: names of calls, answers in short, reasons in full, and the verdict on the book.
use Rattle.std.specs.Prelude.{Bool, true, false, cond, List, [], ◌∷◌, ℕ, ◌-◌, leb, get_or, Option, None, Some, Result, Ok, Err, ⊤}
use Rattle.lines.specs.Cells.{bytes}
use Rattle.model.specs.Says.{number}
use Rattle.model.specs.declared.Fetch.{Fetch}
use Rattle.model.specs.declared.Fetch.TheVariants as fetch
use Rattle.model.specs.declared.Received.{Received}
use Rattle.model.specs.declared.Rejected.{Rejected}
use Rattle.model.specs.declared.Rejected.TheVariants.{ReleasedPending, DiscardedUnsolicited}
use Rattle.model.specs.declared.Blocked.{Blocked}
use Rattle.model.specs.declared.Blocked.TheVariants.{NoDecision, BlameStaller, BlamePendingTimeout, EvictStaged, HedgeColdFront}
use Rattle.model.specs.declared.NextRequest.{NextRequest}
use Rattle.model.specs.declared.Request.{Request}
use Rattle.model.specs.declared.Refusal.{Refusal}
use Rattle.model.specs.declared.Refusal.TheVariants.{WordCount, NotAWindow, ShortReport, Clock, Settings, Seats, Listed, Many, Body, ShortOutput, Payload, Chain}
use Rattle.lines.specs.declared.Call.{Call}
use Rattle.lines.specs.declared.Call.TheVariants.{Open, MarkRequested, MarkOwnedFetch, MarkReceivedFrom, RejectDelivery, ExpirePending, RequeueForRetry, ReleasePending, RetireBefore, RetainOwnedBy, ObserveBlocked, ConfirmColdFrontHedge, ConfirmPrefixProbe, SetFanoutEligiblePeers, ClearPreferredPeer, NextPeerRequest, Other}
use Rattle.model.specs.declared.Reason.{Reason}
use Rattle.model.specs.declared.Reason.TheVariants as reason
use Rattle.lines.specs.declared.Head.{Head}
use Rattle.lines.specs.declared.Head.TheVariants as head
use Rattle.lines.specs.declared.Tail.{Tail}
use Rattle.lines.specs.declared.Tail.TheVariants as tail
use Rattle.lines.specs.declared.Entry.{Entry}
use Rattle.lines.specs.declared.Entry.TheVariants as entry
use Rattle.lines.specs.declared.Said.{Said}

-- a number that is no call's has the last name
abbrev pub name : Call → List ℕ
name Open = bytes "open                     "
name MarkRequested = bytes "mark_requested           "
name MarkOwnedFetch = bytes "mark_owned_fetch         "
name MarkReceivedFrom = bytes "mark_received_from       "
name RejectDelivery = bytes "reject_delivery          "
name ExpirePending = bytes "expire_pending           "
name RequeueForRetry = bytes "requeue_for_retry        "
name ReleasePending = bytes "release_pending          "
name RetireBefore = bytes "retire_before            "
name RetainOwnedBy = bytes "retain_owned_by          "
name ObserveBlocked = bytes "observe_blocked          "
name ConfirmColdFrontHedge = bytes "confirm_cold_front_hedge "
name ConfirmPrefixProbe = bytes "confirm_prefix_probe     "
name SetFanoutEligiblePeers = bytes "set_fanout_eligible_peers"
name ClearPreferredPeer = bytes "clear_preferred_peer     "
name NextPeerRequest = bytes "next_peer_request        "
name (Other n) = bytes "next_peer_request        "

-- by the number in a line of the script
abbrev pub numbered : ℕ → Option Call
numbered n =
    get_or
    (Some Open
    ∷ Some MarkRequested
    ∷ Some MarkOwnedFetch
    ∷ Some MarkReceivedFrom
    ∷ Some RejectDelivery
    ∷ Some ExpirePending
    ∷ Some RequeueForRetry
    ∷ Some ReleasePending
    ∷ Some RetireBefore
    ∷ Some RetainOwnedBy
    ∷ Some ObserveBlocked
    ∷ Some ConfirmColdFrontHedge
    ∷ Some ConfirmPrefixProbe
    ∷ Some SetFanoutEligiblePeers
    ∷ Some ClearPreferredPeer
    ∷ Some NextPeerRequest
    ∷ [])
    n
    None

abbrev pub head_word : Head → List ℕ
head_word head.Done = bytes "done    "
head_word head.Refused = bytes "refused "
head_word head.Asked = bytes "asked   "
head_word head.Held = bytes "held    "
head_word head.Staged = bytes "staged  "
head_word head.NoRoom = bytes "no room "
head_word head.LetGo = bytes "let go  "
head_word head.GotIt = bytes "got it  "
head_word head.GotItAnd = bytes "got it, "
head_word head.Unasked = bytes "unasked "
head_word head.NoBlame = bytes "no blame"
head_word head.Blames = bytes "blames  "
head_word head.Evicts = bytes "evicts  "
head_word head.Hedges = bytes "hedges  "
head_word head.Planned = bytes "planned "
head_word head.NoPlan = bytes "no plan "

abbrev pub reason_word : Reason → List ℕ
reason_word reason.Delivered = bytes " delivered "
reason_word reason.OwnerRejection = bytes " rejected  "
reason_word reason.Retry = bytes " to retry  "
reason_word reason.Released = bytes " released  "
reason_word reason.Retired = bytes " retired   "
reason_word reason.OwnerTimeOut = bytes " timed out "
reason_word reason.PassedOver = bytes " skipped   "
reason_word reason.SeatLost = bytes " peer gone "
reason_word reason.PrefixRaceLost = bytes " race lost "
reason_word reason.HedgeLost = bytes " hedge lost"

abbrev pub refusal_word : Refusal → List ℕ
refusal_word WordCount = bytes " word count"
refusal_word NotAWindow = bytes " no window "
refusal_word ShortReport = bytes " report    "
refusal_word Clock = bytes " clock     "
refusal_word Settings = bytes " settings  "
refusal_word Seats = bytes " no seat   "
refusal_word Listed = bytes " is pending"
refusal_word Many = bytes " over 256  "
refusal_word Body = bytes " body size "
refusal_word ShortOutput = bytes " list short"
refusal_word Payload = bytes " payload   "
refusal_word Chain = bytes " chain list"

abbrev pub tail_word : Tail → List ℕ
tail_word (tail.Why why) = reason_word why
tail_word (tail.Because r) = refusal_word r
tail_word tail.IsPending = bytes " is pending"
tail_word tail.RoomLeft = bytes " room left "
tail_word tail.Full = bytes " full      "
tail_word tail.Discarded = bytes " discarded "
tail_word tail.Staller = bytes " staller   "
tail_word tail.Silent = bytes " silent    "
tail_word tail.Staged = bytes " staged    "
tail_word tail.ColdFront = bytes " cold front"

abbrev pub last_word : Option Tail → List ℕ
last_word None = bytes "           "
last_word (Some t) = tail_word t

-- the lines of the book
abbrev pub reason_entry : Reason → List ℕ
reason_entry reason.Delivered = bytes "  let go: delivered              "
reason_entry reason.OwnerRejection = bytes "  let go: rejected               "
reason_entry reason.Retry = bytes "  let go: to be tried again      "
reason_entry reason.Released = bytes "  let go: released               "
reason_entry reason.Retired = bytes "  let go: retired                "
reason_entry reason.OwnerTimeOut = bytes "  let go: its peer timed out     "
reason_entry reason.PassedOver = bytes "  let go: skipped by its peer    "
reason_entry reason.SeatLost = bytes "  let go: its peer is gone       "
reason_entry reason.PrefixRaceLost = bytes "  let go: prefix race lost       "
reason_entry reason.HedgeLost = bytes "  let go: hedge lost             "

abbrev pub entry_words : Entry → List ℕ
entry_words (entry.LetGo why) = reason_entry why
entry_words entry.Opened = bytes "  opened                         "
entry_words entry.LetGoInAll = bytes "  let go in all                  "
entry_words entry.Pending = bytes "  pending, as the window says    "

-- in the order of the page; past its end the last
abbrev pub nth_entry : ℕ → Entry
nth_entry k =
    get_or
    (entry.Opened
    ∷ entry.LetGo reason.Delivered
    ∷ entry.LetGo reason.OwnerRejection
    ∷ entry.LetGo reason.Retry
    ∷ entry.LetGo reason.Released
    ∷ entry.LetGo reason.Retired
    ∷ entry.LetGo reason.OwnerTimeOut
    ∷ entry.LetGo reason.PassedOver
    ∷ entry.LetGo reason.SeatLost
    ∷ entry.LetGo reason.PrefixRaceLost
    ∷ entry.LetGo reason.HedgeLost
    ∷ entry.LetGoInAll
    ∷ entry.Pending
    ∷ [])
    k
    entry.Pending

abbrev pub verdicts : Bool → List ℕ
verdicts true = bytes "The book adds up: what was opened is what was let go and what is pending.\n"
verdicts false = bytes "THE BOOK DOES NOT ADD UP: what was opened is not let go, and not pending.\n"

-- ---- reasons by their numbers in a report, 1 to 10

abbrev pub reason_of : ℕ → Option Reason
reason_of n =
    get_or
    (None
    ∷ Some reason.Delivered
    ∷ Some reason.OwnerRejection
    ∷ Some reason.Retry
    ∷ Some reason.Released
    ∷ Some reason.Retired
    ∷ Some reason.OwnerTimeOut
    ∷ Some reason.PassedOver
    ∷ Some reason.SeatLost
    ∷ Some reason.PrefixRaceLost
    ∷ Some reason.HedgeLost
    ∷ [])
    n
    None

abbrev pub tail_by : Option Reason → Option Tail
tail_by None = None
tail_by (Some why) = Some (tail.Why why)

-- the tails past those of reasons, past them the last
abbrev pub tail_past : ℕ → Option Tail
tail_past n =
    get_or
    (Some tail.IsPending
    ∷ Some tail.RoomLeft
    ∷ Some tail.Full
    ∷ Some tail.Discarded
    ∷ Some tail.Staller
    ∷ Some tail.Silent
    ∷ Some tail.Staged
    ∷ [])
    n
    (Some tail.ColdFront)

-- of any word of a report: 0 says nothing, 1 to 10 are reasons
abbrev pub tail_of : ℕ → Option Tail
tail_of n = cond (leb n 10) (tail_by (reason_of n)) (tail_past (n - 11))

-- ---- answers: a head, a number or none, a tail or none

abbrev pub plain : Head → Option Tail → Said
plain h t = record { head = h; number = None; tail = t }

abbrev pub counted : Head → ℕ → Option Tail → Said
counted h n t = record { head = h; number = Some n; tail = t }

-- the refusal's number, and why it is one
abbrev pub refused : Refusal → Said
refused r = counted head.Refused (number r) (Some (tail.Because r))

abbrev pub accepted : Result ⊤ Refusal → Result Said Refusal
accepted (Err r) = Err r
accepted (Ok u) = Ok (plain head.Done None)

-- n blocks were in the list
abbrev pub requested : Result Bool Refusal → ℕ → Result Said Refusal
requested (Err r) n = Err r
requested (Ok false) n = Ok (counted head.Asked n (Some tail.Full))
requested (Ok true) n = Ok (counted head.Asked n (Some tail.RoomLeft))

abbrev pub fetched : Result Fetch Refusal → Result Said Refusal
fetched (Err r) = Err r
fetched (Ok fetch.Held) = Ok (plain head.Held (Some tail.IsPending))
fetched (Ok fetch.Staged) = Ok (plain head.Staged None)
fetched (Ok fetch.Asked) = Ok (counted head.Asked 1 None)
fetched (Ok fetch.NoCapacity) = Ok (plain head.NoRoom None)

-- why the first place of the report was let go
abbrev pub let_go : Result ℕ Refusal → ℕ → Result Said Refusal
let_go (Err r) why = Err r
let_go (Ok n) why = Ok (counted head.LetGo n (tail_of why))

-- a report of n places, the first of them delivered
abbrev pub got : ℕ → ℕ → Said
got n why = cond (leb n 1) (plain head.GotIt None) (counted head.GotItAnd (n - 1) (tail_of why))

-- a body that was not asked for, or one that was
abbrev pub received_by : Option ℕ → ℕ → ℕ → Said
received_by None n why = plain head.Unasked None
received_by (Some height) n why = got n why

-- why the second place of the report was let go
abbrev pub received : Result Received Refusal → ℕ → Result Said Refusal
received (Err r) why = Err r
received (Ok d) why = Ok (received_by d.height d.places why)

abbrev pub rejected : Result Rejected Refusal → Result Said Refusal
rejected (Err r) = Err r
rejected (Ok (ReleasedPending n)) = Ok (counted head.LetGo n (Some (tail.Why reason.OwnerRejection)))
rejected (Ok DiscardedUnsolicited) = Ok (plain head.Unasked (Some tail.Discarded))

abbrev pub blocked : Result Blocked Refusal → Result Said Refusal
blocked (Err r) = Err r
blocked (Ok NoDecision) = Ok (plain head.NoBlame None)
blocked (Ok (BlameStaller seat)) = Ok (counted head.Blames seat (Some tail.Staller))
blocked (Ok (BlamePendingTimeout seat)) = Ok (counted head.Blames seat (Some tail.Silent))
blocked (Ok (EvictStaged height h waited)) = Ok (counted head.Evicts height (Some tail.Staged))
blocked (Ok (HedgeColdFront seat h)) = Ok (counted head.Hedges seat (Some tail.ColdFront))

abbrev pub planned_by : Option Request → ℕ → Said
planned_by None why = plain head.NoPlan (tail_of why)
planned_by (Some p) why = counted head.Planned p.count (tail_of why)

-- how many blocks; why the first place of the report was let go
abbrev pub planned : Result NextRequest Refusal → ℕ → Result Said Refusal
planned (Err r) why = Err r
planned (Ok n) why = Ok (planned_by n.request why)

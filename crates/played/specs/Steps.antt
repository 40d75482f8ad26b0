-- Which call a step of the demo's script is, what is said of its answer, and what it writes in the book. Definitions only.
use Rattle.std.specs.Prelude.{◌≡◌, Bool, true, false, cond, List, [], ◌∷◌, ℕ, eqb, length, get_or, set, replicate, take, min, Option, None, Some, Result, Ok, Err}
use Rattle.model.specs.Queries.{reads, ewma_block_bytes}
use Rattle.model.specs.Refusals.{Change, Call, opens, changes, queries, requests, fetches, receives, rejects, expires, requeues, releases, retires, retains, confirms_probe, confirms_hedge, observes, sets_fanout, clears_preferred, plans}
use Rattle.model.specs.Planning.{Lent, ask_hashes, ask_heights, written}
use Rattle.model.specs.Perform.{Answer, refused, says, perform}
use Rattle.model.specs.Says.{number}
use Rattle.model.specs.declared.Refusal.{Refusal}
use Rattle.observation.specs.Look.{look}
use Rattle.letting_go.specs.Letting.{places}
use Rattle.planning.specs.Proposes.{lent}
use Rattle.report_words.specs.Report.{releases_of}
use Rattle.lend.specs.Blank.{none_filled}
use Rattle.lines.specs.Words.{plain, counted, got, tail_of}
use Rattle.lines.specs.declared.Said.{Said}
use Rattle.lines.specs.declared.Call.{Call as Name}
use Rattle.lines.specs.declared.Call.TheVariants as calls
use Rattle.lines.specs.declared.Head.TheVariants as head
use Rattle.lines.specs.declared.Tail.TheVariants as tail
use Rattle.model.specs.declared.Reason.TheVariants as reason
use Rattle.ledger.specs.Book.{opened, let_go}
use Rattle.ledger.specs.declared.Book.{Book}
use Rattle.script.specs.Given.{settings, keys, hashes, height_of, height_after, words_to}
use Rattle.script.specs.Kept.{plan_of}
use Rattle.script.specs.declared.Step.{Step}
use Rattle.script.specs.declared.Plan.{Plan}
use Rattle.played.specs.declared.Outcome.{Outcome}
use Rattle.played.specs.declared.Turn.{Turn}

-- what is said, with a refusal by its number, as an answer has it
abbrev pub Spoken : Type 0
Spoken = Result Said ℕ

abbrev pub spoken : Result Said Refusal → Spoken
spoken (Err r) = Err (number r)
spoken (Ok s) = Ok s

-- a call; what is said of its answer, beside the words of the report; how many blocks an answer says it opened
pub record Play : Type 0 where
  pub call : Call
  pub said : Answer → List ℕ → Spoken
  pub blocks : Answer → ℕ

-- more room for staged blocks than the script needs
abbrev pub room : ℕ
room = 1000000000

-- ---- what is said of an answer, by its values

abbrev pub done_said : Answer → List ℕ → Spoken
done_said (refused n) gone = Err n
done_said (says places values) gone = Ok (plain head.Done None)

-- n blocks were asked for; 0 says that there is no room for more
abbrev pub request_said : ℕ → Answer → List ℕ → Spoken
request_said n (refused k) gone = Err k
request_said n (says places values) gone = Ok (counted head.Asked n (Some (cond (eqb (get_or values 0 0) 0) tail.Full tail.RoomLeft)))

-- 0 held, 1 staged, 2 asked, 3 no room
abbrev pub fetch_said : Answer → List ℕ → Spoken
fetch_said (refused n) gone = Err n
fetch_said (says places values) gone =
    Ok
    (get_or (plain head.Held (Some tail.IsPending) ∷ plain head.Staged None ∷ counted head.Asked 1 None ∷ []) (get_or values 0 0) (plain head.NoRoom None))

-- with the reason of the report's first place
abbrev pub let_go_said : Answer → List ℕ → Spoken
let_go_said (refused n) gone = Err n
let_go_said (says places values) gone = Ok (counted head.LetGo places (tail_of (get_or gone 8 0)))

-- with the reason of its second place, where a height says that the block was asked for
abbrev pub got_said : List ℕ → ℕ → List ℕ → Said
got_said [] places gone = plain head.Unasked None
got_said (height ∷ values) places gone = got places (get_or gone 17 0)

abbrev pub received_said : Answer → List ℕ → Spoken
received_said (refused n) gone = Err n
received_said (says places values) gone = Ok (got_said values places gone)

-- how many blocks are planned, with the reason of the report's first place
abbrev pub proposed_said : List ℕ → List ℕ → Said
proposed_said [] gone = plain head.NoPlan (tail_of (get_or gone 8 0))
proposed_said (n ∷ values) gone = counted head.Planned n (tail_of (get_or gone 8 0))

abbrev pub plan_said : Answer → List ℕ → Spoken
plan_said (refused n) gone = Err n
plan_said (says places values) gone = Ok (proposed_said values gone)

-- 1 released, 0 discarded
abbrev pub rejected_said : Answer → List ℕ → Spoken
rejected_said (refused n) gone = Err n
rejected_said (says places values) gone =
    Ok (cond (eqb (get_or values 0 0) 1) (counted head.LetGo places (Some (tail.Why reason.OwnerRejection))) (plain head.Unasked (Some tail.Discarded)))

-- 0 no decision, 1 and 2 blame, 3 evicts, 4 hedges
abbrev pub blocked_said : Answer → List ℕ → Spoken
blocked_said (refused n) gone = Err n
blocked_said (says places values) gone =
    Ok
    (get_or
    (plain head.NoBlame None
    ∷ counted head.Blames (get_or values 1 0) (Some tail.Staller)
    ∷ counted head.Blames (get_or values 1 0) (Some tail.Silent)
    ∷ counted head.Evicts (get_or values 1 0) (Some tail.Staged)
    ∷ [])
    (get_or values 0 0)
    (counted head.Hedges (get_or values 1 0) (Some tail.ColdFront)))

-- ---- how many blocks an answer says were opened

abbrev pub no_blocks : Answer → ℕ
no_blocks a = 0

abbrev pub request_blocks : ℕ → Answer → ℕ
request_blocks n (refused k) = 0
request_blocks n (says places values) = n

abbrev pub fetch_blocks : Answer → ℕ
fetch_blocks (refused n) = 0
fetch_blocks (says places values) = cond (eqb (get_or values 0 0) 2) 1 0

-- the number that a query answers, 0 where it is refused
abbrev pub number_of : Answer → ℕ
number_of (refused n) = 0
number_of (says places values) = get_or values 0 0

-- each block is booked with the mean that the window says before the call
abbrev pub mean_in : List ℕ → ℕ
mean_in ws = number_of (perform (queries (reads ewma_block_bytes)) ws []).answer

-- ---- the steps

-- where there is no plan, 0
abbrev pub count_of : Option Plan → ℕ
count_of None = 0
count_of (Some p) = p.count

abbrev pub next_of : Option Plan → ℕ
next_of None = 0
next_of (Some p) = p.next

-- as many blocks of the plan as the list has heights
abbrev pub handed : Option Plan → List ℕ → ℕ
handed p heights = min (count_of p) (length heights)

-- the last plan is marked as it stands in the two lists
abbrev pub requesting : Step → Option Plan → List ℕ → List ℕ → Call
requesting s p hashes heights = changes (requests s.clock s.peer hashes (take (handed p heights) heights) (next_of p) room room)

abbrev pub asking : Step → Option Plan → List ℕ → List ℕ → Play
asking s p hashes heights =
    let n = handed p heights in
    record { call = requesting s p hashes heights; said = request_said n; blocks = request_blocks n }

abbrev pub fetching : Step → Play
fetching s = record { call = changes (fetches s.clock s.peer s.hash s.first false room room); said = fetch_said; blocks = fetch_blocks }

abbrev pub receiving : Step → Play
receiving s = record { call = changes (receives s.clock s.hash s.other (Some s.peer)); said = received_said; blocks = no_blocks }

abbrev pub rejecting : Step → Play
rejecting s = record { call = changes (rejects s.clock s.hash (Some s.peer)); said = rejected_said; blocks = no_blocks }

-- a call that lets go
abbrev pub letting : Change → Play
letting x = record { call = changes x; said = let_go_said; blocks = no_blocks }

-- every seat is kept but the peer's
abbrev pub keeping : Step → Change
keeping s = retains (set (replicate 256 1) s.peer 0)

abbrev pub looking : Step → Play
looking s = record {
  call = changes (observes s.clock (look (Some s.first) (Some s.hash) false s.other (Some (height_after s.first 8))));
  said = blocked_said;
  blocks = no_blocks;
}

-- a call that is done or refused
abbrev pub doing : Call → Play
doing call = record { call = call; said = done_said; blocks = no_blocks }

-- the peer is asked for eight blocks of their owner's
abbrev pub probing : Step → Change
probing s = confirms_probe s.clock s.other (hashes 32 8 s.first) (s.peer ∷ [])

abbrev pub opening : Step → Call
opening s = opens s.clock settings (keys 256)

-- the calls that are done or refused; any other stands here as an opening
abbrev pub changing : Step → Name → Call
changing s calls.ConfirmColdFrontHedge = changes (confirms_hedge s.other s.peer s.hash)
changing s calls.ConfirmPrefixProbe = changes (probing s)
changing s calls.SetFanoutEligiblePeers = changes (sets_fanout s.clock s.other)
changing s calls.ClearPreferredPeer = changes clears_preferred
changing s _ = opening s

abbrev pub making_by : Step → Option Plan → List ℕ → List ℕ → Name → Play
making_by s p hashes heights calls.MarkRequested = asking s p hashes heights
making_by s p hashes heights calls.MarkOwnedFetch = fetching s
making_by s p hashes heights calls.MarkReceivedFrom = receiving s
making_by s p hashes heights calls.RejectDelivery = rejecting s
making_by s p hashes heights calls.ExpirePending = letting (expires s.clock)
making_by s p hashes heights calls.RequeueForRetry = letting (requeues s.clock s.hash (Some s.first))
making_by s p hashes heights calls.ReleasePending = letting (releases s.clock s.hash)
making_by s p hashes heights calls.RetireBefore = letting (retires s.clock s.first)
making_by s p hashes heights calls.RetainOwnedBy = letting (keeping s)
making_by s p hashes heights calls.ObserveBlocked = looking s
making_by s p hashes heights calls.ConfirmColdFrontHedge = doing (changing s calls.ConfirmColdFrontHedge)
making_by s p hashes heights calls.ConfirmPrefixProbe = doing (changing s calls.ConfirmPrefixProbe)
making_by s p hashes heights calls.SetFanoutEligiblePeers = doing (changing s calls.SetFanoutEligiblePeers)
making_by s p hashes heights calls.ClearPreferredPeer = doing (changing s calls.ClearPreferredPeer)
making_by s p hashes heights calls.Open = doing (changing s calls.Open)
making_by s p hashes heights calls.NextPeerRequest = doing (changing s calls.NextPeerRequest)
making_by s p hashes heights (calls.Other n) = doing (changing s (calls.Other n))

-- every call but the one that plans, which stands here as an opening, as does a number that is no call's
unfoldable pub making : Step → Option Plan → List ℕ → List ℕ → Play
making s p hashes heights = making_by s p hashes heights s.call

-- ---- which call plans

abbrev pub plans_by : Name → Bool
plans_by calls.NextPeerRequest = true
plans_by _ = false

-- ---- a plan

-- `first` is the height at which requests start, `count` how many blocks there is room for, `other` the tip, which every peer has. So many words of the chain are lent; nothing
-- is refused by the node.
abbrev pub lent_at : Step → List ℕ → ℕ → ℕ → List ℕ → Lent
lent_at s staged tip n words = lent (take n words) tip s.first tip 0 staged [] false room s.count

abbrev pub lent_by : Step → List ℕ → Lent
lent_by s staged = let tip = height_of s.other in lent_at s staged tip (words_to tip) (hashes 256 64 0)

-- with lists of so many words and heights
abbrev pub planning : Step → List ℕ → ℕ → ℕ → Play
planning s staged n m = record { call = changes (plans s.clock s.peer (lent_by s staged) n m); said = plan_said; blocks = no_blocks }

-- the plan that an answer says, with its heights first in the list; a refused call makes none
abbrev pub plan_in : List ℕ → List ℕ → Option Plan
plan_in [] heights = None
plan_in (count ∷ values) heights = Some (plan_of count (get_or values 0 0) heights)

abbrev pub planned_by : Answer → List ℕ → Option Plan
planned_by (refused n) heights = None
planned_by (says places values) heights = plan_in values heights

-- ---- the promises

-- THE PROMISE: the call is made with a report of 256 places, none of them filled. The words that are left are what `perform` has; and of what `perform` answers and reports,
-- said in words by `gone`, is said and booked what the step has: the blocks that were opened, each with the mean of before, and those that were let go.
abbrev pub Plays : Play → Book → List ℕ → List ℕ → Outcome → Type 0
Plays t b ws ws' r =
    (gone : List ℕ)
    × (releases_of 256 gone ≡ (perform t.call ws none_filled).report)
    × (ws' ≡ (perform t.call ws none_filled).words)
    × (spoken r.said ≡ t.said (perform t.call ws none_filled).answer gone)
    × (r.book ≡ let_go (opened b (t.blocks (perform t.call ws none_filled).answer) (mean_in ws)) gone (places (perform t.call ws none_filled).answer))

-- What is kept beside the book: the last plan, the two lists that are lent for one, and the hashes that are staged.
pub record Kept : Type 0 where
  pub plan : Option Plan
  pub hashes : List ℕ
  pub heights : List ℕ
  pub staged : List ℕ

abbrev pub kept : Option Plan → List ℕ → List ℕ → List ℕ → Kept
kept plan hashes heights staged = record { plan = plan; hashes = hashes; heights = heights; staged = staged }

-- THE PROMISE of a step: it plays, what `perform` plans stands in the two lists, and the last plan is the one that is made of the answer.
abbrev pub Turns : Play → (Answer → List ℕ → Option Plan) → Kept → Book → List ℕ → List ℕ → List ℕ → List ℕ → Turn → Type 0
Turns t plan k b ws ws' hashes' heights' r =
    Plays t b ws ws' (record { said = r.said; book = r.book })
    × (hashes' ≡ written (ask_hashes (perform t.call ws none_filled).plan) k.hashes)
    × (heights' ≡ written (ask_heights (perform t.call ws none_filled).plan) k.heights)
    × (r.plan ≡ plan (perform t.call ws none_filled).answer heights')

-- by whether the step plans
abbrev pub play_if : Bool → Step → Kept → Play
play_if true s k = planning s k.staged (length k.hashes) (length k.heights)
play_if false s k = making s k.plan k.hashes k.heights

abbrev pub plan_if : Bool → Kept → Answer → List ℕ → Option Plan
plan_if true k a heights = planned_by a heights
plan_if false k a heights = k.plan

abbrev pub TurnsIf : Bool → Step → Kept → Book → List ℕ → List ℕ → List ℕ → List ℕ → Turn → Type 0
TurnsIf is_plan s k = Turns (play_if is_plan s k) (plan_if is_plan k) k

abbrev pub TurnsBy : Step → Kept → Book → List ℕ → List ℕ → List ℕ → List ℕ → Turn → Type 0
TurnsBy s = TurnsIf (plans_by s.call) s

-- What the calls promise, said of the step of the script that makes them. Assumes nothing.
use Rattle.std.specs.Prelude.{◌≡◌, refl, Bool, true, false, List, [], ℕ, zero, suc, length, get_or, replicate, Option, None, Some, Result, Ok, Err, ⊤}
use Rattle.std.proofs.Common.{sym, subst, ◌∙◌}
use Rattle.std.proofs.Math.Path.{ap}
use Rattle.model.specs.Window.{Window}
use Rattle.model.specs.Queries.{source_values}
use Rattle.model.specs.Planning.{ask_hashes, ask_heights, written}
use Rattle.model.specs.Refusals.{Change, Call, changes, refusal}
use Rattle.model.specs.Perform.{Answer, says, requested, observed, changed, does, plan_by, plan_after, perform}
use Rattle.model.specs.Says.{accepted_says, requested_says, fetch_says, let_go_says, received_says, rejected_says, blocked_says, next_request_says, number_says, request_values}
use Rattle.model.specs.declared.Fetch.{Fetch}
use Rattle.model.specs.declared.Fetch.TheVariants as fetch
use Rattle.model.specs.declared.Received.{Received}
use Rattle.model.specs.declared.Rejected.{Rejected}
use Rattle.model.specs.declared.Rejected.TheVariants as rejected
use Rattle.model.specs.declared.Blocked.{Blocked}
use Rattle.model.specs.declared.Blocked.TheVariants as blocked
use Rattle.model.specs.declared.NextRequest.{NextRequest}
use Rattle.model.specs.declared.Request.{Request}
use Rattle.model.specs.declared.Refusal.{Refusal}
use Rattle.letting_go.specs.Letting.{places}
use Rattle.report_words.specs.Report.{releases_of}
use Rattle.lend.specs.Blank.{none_filled}
use Rattle.lend.specs.Goes.{Goes, Leaves, Quiet, quiet_goes, quiet_change, quiet_opening}
use Rattle.lines.specs.Words as words
use Rattle.lines.specs.declared.Said.{Said}
use Rattle.lines.specs.declared.Call.{Call as Name}
use Rattle.lines.specs.declared.Call.TheVariants as calls
use Rattle.ledger.specs.Book.{value, more, added, tallied, opened, of_request, of_fetch, let_go}
use Rattle.ledger.specs.declared.Book.{Book}
use Rattle.script.specs.Kept.{plan_of_request, planned}
use Rattle.script.specs.declared.Step.{Step}
use Rattle.script.specs.declared.Plan.{Plan}
use Rattle.played.specs.declared.Outcome.{Outcome}
use Rattle.played.specs.declared.Turn.{Turn}
use Rattle.played.specs.Steps.{spoken, Play, Plays, Kept, Turns, TurnsIf, TurnsBy, done_said, request_said, fetch_said, let_go_said, received_said, rejected_said, blocked_said, plan_said, planned_by, request_blocks, fetch_blocks, number_of, mean_in, letting, doing, changing, plans_by, making_by, making}

-- ---- an answer of the code, by its values

pub done_told : (r : Result ⊤ Refusal) (gone : List ℕ) → spoken (words.accepted r) ≡ done_said (accepted_says r) gone
done_told (Err r) gone = refl
done_told (Ok u) gone = refl

pub request_told : (r : Result Bool Refusal) (n : ℕ) (gone : List ℕ) → spoken (words.requested r n) ≡ request_said n (requested_says r) gone
request_told (Err r) n gone = refl
request_told (Ok false) n gone = refl
request_told (Ok true) n gone = refl

pub request_opens : (r : Result Bool Refusal) (n : ℕ) → of_request r n ≡ request_blocks n (requested_says r)
request_opens (Err r) n = refl
request_opens (Ok room) n = refl

pub fetch_told : (r : Result Fetch Refusal) (gone : List ℕ) → spoken (words.fetched r) ≡ fetch_said (fetch_says r) gone
fetch_told (Err r) gone = refl
fetch_told (Ok fetch.Held) gone = refl
fetch_told (Ok fetch.Staged) gone = refl
fetch_told (Ok fetch.Asked) gone = refl
fetch_told (Ok fetch.NoCapacity) gone = refl

pub fetch_opens : (r : Result Fetch Refusal) → of_fetch r ≡ fetch_blocks (fetch_says r)
fetch_opens (Err r) = refl
fetch_opens (Ok fetch.Held) = refl
fetch_opens (Ok fetch.Staged) = refl
fetch_opens (Ok fetch.Asked) = refl
fetch_opens (Ok fetch.NoCapacity) = refl

pub let_go_told : (r : Result ℕ Refusal) (gone : List ℕ) → spoken (words.let_go r (get_or gone 8 0)) ≡ let_go_said (let_go_says r) gone
let_go_told (Err r) gone = refl
let_go_told (Ok n) gone = refl

received_at : (height : Option ℕ) (n : ℕ) (gone : List ℕ) → spoken (Ok (words.received_by height n (get_or gone 17 0))) ≡ received_said (says n (source_values height)) gone
received_at None n gone = refl
received_at (Some height) n gone = refl

pub received_told : (r : Result Received Refusal) (gone : List ℕ) → spoken (words.received r (get_or gone 17 0)) ≡ received_said (received_says r) gone
received_told (Err r) gone = refl
received_told (Ok d) gone = received_at d.height d.places gone

pub rejected_told : (r : Result Rejected Refusal) (gone : List ℕ) → spoken (words.rejected r) ≡ rejected_said (rejected_says r) gone
rejected_told (Err r) gone = refl
rejected_told (Ok (rejected.ReleasedPending n)) gone = refl
rejected_told (Ok rejected.DiscardedUnsolicited) gone = refl

pub blocked_told : (r : Result Blocked Refusal) (gone : List ℕ) → spoken (words.blocked r) ≡ blocked_said (blocked_says r) gone
blocked_told (Err r) gone = refl
blocked_told (Ok blocked.NoDecision) gone = refl
blocked_told (Ok (blocked.BlameStaller owner)) gone = refl
blocked_told (Ok (blocked.BlamePendingTimeout owner)) gone = refl
blocked_told (Ok (blocked.EvictStaged height h suppressed)) gone = refl
blocked_told (Ok (blocked.HedgeColdFront owner h)) gone = refl

plan_at : (p : Option Request) (n : ℕ) (gone : List ℕ) → spoken (Ok (words.planned_by p (get_or gone 8 0))) ≡ plan_said (says n (request_values p)) gone
plan_at None n gone = refl
plan_at (Some p) n gone = refl

pub plan_told : (r : Result NextRequest Refusal) (gone : List ℕ) → spoken (words.planned r (get_or gone 8 0)) ≡ plan_said (next_request_says r) gone
plan_told (Err r) gone = refl
plan_told (Ok n) gone = plan_at n.request n.places gone

kept_at : (p : Option Request) (n : ℕ) (heights : List ℕ) → plan_of_request p heights ≡ planned_by (says n (request_values p)) heights
kept_at None n heights = refl
kept_at (Some p) n heights = refl

pub plan_kept : (r : Result NextRequest Refusal) (heights : List ℕ) → planned r heights ≡ planned_by (next_request_says r) heights
plan_kept (Err r) heights = refl
plan_kept (Ok n) heights = kept_at n.request n.places heights

pub number_told : (r : Result ℕ Refusal) → value r ≡ number_of (number_says r)
number_told (Err r) = refl
number_told (Ok x) = refl

-- ---- the book after a call that opens, and after one that lets go

none_opened : (b : Book) (estimate : ℕ) → b ≡ opened b 0 estimate
unfolding opened more added
none_opened b estimate = refl

only_opened : (b : Book) (n estimate : ℕ) (gone : List ℕ) → opened b n estimate ≡ let_go (opened b n estimate) gone 0
unfolding let_go opened more tallied
only_opened b n estimate gone = refl

only_let_go : (b : Book) (estimate : ℕ) (gone : List ℕ) (n : ℕ) → let_go b gone n ≡ let_go (opened b 0 estimate) gone n
unfolding let_go opened more added
only_let_go b estimate gone n = refl

-- ---- the promise

pub plays : (t : Play) (b : Book) (ws ws' : List ℕ) (a : Answer) (n : ℕ) (gone : List ℕ) (said : Result Said Refusal) (book : Book) → Goes t.call ws ws' a n gone
    → spoken said ≡ t.said a gone → book ≡ let_go (opened b (t.blocks a) (mean_in ws)) gone n → Plays t b ws ws' (record { said = said; book = book })
plays t b ws ws' a n gone said book g s k =
    let e = g.0 in
    let m = g.3 ∙ ap places e in
    (gone, g.2, g.1, s ∙ ap (λ (y : Answer). t.said y gone) e, k ∙ (λ i. let_go (opened b (t.blocks (e i)) (mean_in ws)) gone (m i)))

-- of a call that lets go
pub plays_letting : (t : Play) (b : Book) (ws ws' : List ℕ) (a : Answer) (n : ℕ) (gone : List ℕ) (said : Result Said Refusal) (book : Book) → Goes t.call ws ws' a n gone
    → spoken said ≡ t.said a gone → book ≡ let_go b gone n → t.blocks a ≡ 0 → Plays t b ws ws' (record { said = said; book = book })
plays_letting t b ws ws' a n gone said book g s k z =
    plays t b ws ws' a n gone said book g s (k ∙ only_let_go b (mean_in ws) gone n ∙ ap (λ (m : ℕ). let_go (opened b m (mean_in ws)) gone n) (sym z))

-- of a call that lets nothing go, and opens so many blocks
pub plays_opening : (t : Play) (b : Book) (ws ws' : List ℕ) (a : Answer) (n estimate : ℕ) (said : Result Said Refusal) (book : Book) → Quiet t.call → Leaves t.call ws a ws'
    → spoken said ≡ t.said a (replicate 2304 0) → book ≡ opened b n estimate → n ≡ t.blocks a → estimate ≡ mean_in ws → Plays t b ws ws' (record { said = said; book = book })
plays_opening t b ws ws' a n estimate said book q l s k m e =
    plays t b ws ws' a 0 (replicate 2304 0) said book (quiet_goes t.call q ws a ws' l) s
    (k ∙ (λ i. opened b (m i) (e i)) ∙ only_opened b (t.blocks a) (mean_in ws) (replicate 2304 0))

-- of one that opens nothing either
pub plays_quietly : (t : Play) (b : Book) (ws ws' : List ℕ) (a : Answer) (said : Result Said Refusal) → Quiet t.call → Leaves t.call ws a ws'
    → spoken said ≡ t.said a (replicate 2304 0) → t.blocks a ≡ 0 → Plays t b ws ws' (record { said = said; book = b })
plays_quietly t b ws ws' a said q l s z =
    plays_opening t b ws ws' a 0 (mean_in ws) said b q l s (none_opened b (mean_in ws)) (sym z) refl

pub plays_as : (p q : Play) → p ≡ q → (b : Book) (ws ws' : List ℕ) (r : Outcome) → Plays q b ws ws' r → Plays p b ws ws' r
plays_as p q e b ws ws' r h = subst (λ (x : Play). Plays x b ws ws' r) (sym e) h

-- the calls that are done or refused let nothing go
pub quiet_changing : (s : Step) (call : Name) → Quiet (changing s call)
quiet_changing s calls.ConfirmColdFrontHedge = quiet_change _ refl
quiet_changing s calls.ConfirmPrefixProbe = quiet_change _ refl
quiet_changing s calls.SetFanoutEligiblePeers = quiet_change _ refl
quiet_changing s calls.ClearPreferredPeer = quiet_change _ refl
quiet_changing s _ = quiet_opening _ _ _

-- ---- which step it is

module _ (s : Step) (p : Option Plan) (hashes heights : List ℕ) where
  pub plays_step : {n : Name} → s.call ≡ n → (b : Book) (ws ws' : List ℕ) (r : Outcome) → Plays (making_by s p hashes heights n) b ws ws' r
      → Plays (making s p hashes heights) b ws ws' r
  unfolding making
  plays_step e b ws ws' r h = plays_as _ _ (ap (making_by s p hashes heights) e) b ws ws' r h

  -- a call that lets go, with what is said of it and booked
  pub step_letting : {n : Name} → s.call ≡ n → (x : Change) → making_by s p hashes heights n ≡ letting x → (b : Book) (ws ws' : List ℕ) (a : Result ℕ Refusal) (m : ℕ) (gone : List ℕ)
      (r : Outcome) → Goes (changes x) ws ws' (let_go_says a) m gone → (r.said ≡ words.let_go a (get_or gone 8 0)) × (r.book ≡ let_go b gone m)
      → Plays (making s p hashes heights) b ws ws' r
  step_letting e x f b ws ws' a m gone r g h =
      plays_step e b ws ws' r
      (plays_as _ _ f b ws ws' r (plays_letting (letting x) b ws ws' (let_go_says a) m gone r.said r.book g (ap spoken h.0 ∙ let_go_told a gone) h.1 refl))

  -- one that is done or refused, and lets nothing go
  pub step_doing : {n : Name} → s.call ≡ n → (x : Call) → making_by s p hashes heights n ≡ doing x → Quiet x → (b : Book) (ws ws' : List ℕ) (a : Result ⊤ Refusal) (r : Outcome)
      → Leaves x ws (accepted_says a) ws' → (r.said ≡ words.accepted a) × (r.book ≡ b) → Plays (making s p hashes heights) b ws ws' r
  step_doing e x f q b ws ws' a r l h =
      plays_step e b ws ws' r
      (plays_as _ _ f b ws ws' r
      (plays_opening (doing x) b ws ws' (accepted_says a) 0 (mean_in ws) r.said r.book q l (ap spoken h.0 ∙ done_told a (replicate 2304 0)) (h.1 ∙ none_opened b (mean_in ws)) refl refl))

-- ---- all calls but one plan nothing, and leave the lists as they are

abbrev Planless : Call → Type 0
Planless call = (w : Window) → (does call w).plan ≡ []

nothing_planned : (call : Call) → Planless call → (n : ℕ) (ws : List ℕ) → plan_by n call ws ≡ []
nothing_planned call q zero ws = q _
nothing_planned call q (suc n) ws = refl

planless : (call : Call) → Planless call → (ws : List ℕ) → (perform call ws none_filled).plan ≡ []
unfolding perform plan_after
planless call q ws = nothing_planned call q (refusal call ws (length none_filled)) ws

planless_by : (s : Step) (p : Option Plan) (hashes heights : List ℕ) (call : Name) → Planless (making_by s p hashes heights call).call
unfolding changed requested observed
planless_by s p hashes heights calls.MarkRequested = λ w. refl
planless_by s p hashes heights calls.MarkOwnedFetch = λ w. refl
planless_by s p hashes heights calls.MarkReceivedFrom = λ w. refl
planless_by s p hashes heights calls.RejectDelivery = λ w. refl
planless_by s p hashes heights calls.ExpirePending = λ w. refl
planless_by s p hashes heights calls.RequeueForRetry = λ w. refl
planless_by s p hashes heights calls.ReleasePending = λ w. refl
planless_by s p hashes heights calls.RetireBefore = λ w. refl
planless_by s p hashes heights calls.RetainOwnedBy = λ w. refl
planless_by s p hashes heights calls.ObserveBlocked = λ w. refl
planless_by s p hashes heights calls.ConfirmColdFrontHedge = λ w. refl
planless_by s p hashes heights calls.ConfirmPrefixProbe = λ w. refl
planless_by s p hashes heights calls.SetFanoutEligiblePeers = λ w. refl
planless_by s p hashes heights calls.ClearPreferredPeer = λ w. refl
planless_by s p hashes heights calls.Open = λ w. refl
planless_by s p hashes heights calls.NextPeerRequest = λ w. refl
planless_by s p hashes heights (calls.Other n) = λ w. refl

planless_making : (s : Step) (p : Option Plan) (hashes heights : List ℕ) → Planless (making s p hashes heights).call
unfolding making
planless_making s p hashes heights = planless_by s p hashes heights s.call

hashes_as_lent : (l : List ℕ) → l ≡ written (ask_hashes []) l
unfolding written ask_hashes
hashes_as_lent l = refl

heights_as_lent : (l : List ℕ) → l ≡ written (ask_heights []) l
unfolding written ask_heights
heights_as_lent l = refl

-- ---- the promise of a step

pub turns_making : (s : Step) (k : Kept) (b : Book) (ws ws' : List ℕ) (said : Result Said Refusal) (book : Book)
    → Plays (making s k.plan k.hashes k.heights) b ws ws' (record { said = said; book = book })
    → plans_by s.call ≡ false → TurnsBy s k b ws ws' k.hashes k.heights (record { said = said; book = book; plan = k.plan })
turns_making s k b ws ws' said book h e =
    let none = planless _ (planless_making s k.plan k.hashes k.heights) ws in
    subst (λ (x : Bool). TurnsIf x s k b ws ws' k.hashes k.heights (record { said = said; book = book; plan = k.plan })) (sym e) (
      h,
      hashes_as_lent k.hashes ∙ (λ i. written (ask_hashes (sym none i)) k.hashes),
      heights_as_lent k.heights ∙ (λ i. written (ask_heights (sym none i)) k.heights),
      refl,
    )

-- what a call that plans promises
abbrev pub Plans : Call → List ℕ → List ℕ → List ℕ → List ℕ → List ℕ → List ℕ → Answer → ℕ → List ℕ → Type 0
Plans call ws ws' hashes hashes' heights heights' a n gone =
    (a ≡ (perform call ws none_filled).answer)
    × (ws' ≡ (perform call ws none_filled).words)
    × (releases_of 256 gone ≡ (perform call ws none_filled).report)
    × (hashes' ≡ written (ask_hashes (perform call ws none_filled).plan) hashes)
    × (heights' ≡ written (ask_heights (perform call ws none_filled).plan) heights)
    × (n ≡ places a)

pub turns_proposing : (t : Play) (q : Call) → t.call ≡ q → (k : Kept) (b : Book) (ws ws' hashes' heights' : List ℕ) (a : Answer) (n : ℕ) (gone : List ℕ) (said : Result Said Refusal) (book : Book) (plan : Option Plan)
    → Plans q ws ws' k.hashes hashes' k.heights heights' a n gone → spoken said ≡ t.said a gone → book ≡ let_go b gone n → t.blocks a ≡ 0
    → plan ≡ planned_by a heights' → Turns t planned_by k b ws ws' hashes' heights' (record { said = said; book = book; plan = plan })
turns_proposing t q e k b ws ws' hashes' heights' a n gone said book plan h s o z p =
    let g = subst (λ (x : Call). Plans x ws ws' k.hashes hashes' k.heights heights' a n gone) (sym e) h in
    (plays_letting t b ws ws' a n gone said book (g.0, g.1, g.2, g.5) s o z, g.3, g.4, p ∙ ap (λ (y : Answer). planned_by y heights') g.0)

pub turns_planning : (s : Step) (k : Kept) (b : Book) (ws ws' hashes' heights' : List ℕ) (r : Turn)
    → plans_by s.call ≡ true → TurnsIf true s k b ws ws' hashes' heights' r → TurnsBy s k b ws ws' hashes' heights' r
turns_planning s k b ws ws' hashes' heights' r e h = subst (λ (x : Bool). TurnsIf x s k b ws ws' hashes' heights' r) (sym e) h

-- What every public call answers and leaves, on the lent words and the lent report. Definitions only.
use Rattle.std.specs.Prelude.{ℕ, zero, suc, List, [], ◌∷◌, ◌++◌, length, drop, None, Some, Option}
use Rattle.model.specs.Numbers.{read_clock}
use Rattle.model.specs.Hash.{hash_words}
use Rattle.model.specs.Window.{Window, Step, with_clock}
use Rattle.model.specs.Records.{found}
use Rattle.model.specs.Capacity.{has_request_capacity}
use Rattle.model.specs.Cooling.{mark_peer_unresponsive}
use Rattle.model.specs.LettingGo.{expire_pending, retire_before, retain_owned_by, release_pending, requeue_for_retry}
use Rattle.model.specs.Races.{confirm_prefix_probe, confirm_cold_front_hedge}
use Rattle.model.specs.Calls.{Ask, asks_in, Fetching, held, staged, asked, no_capacity, opened, mark_requested, owned_fetch, mark_owned_fetch, mark_received_from, credit_delivery_from, credit_duplicate_delivery, reject_delivery, is_owner, set_fanout_eligible_peers, clear_preferred_peer}
use Rattle.model.specs.Planning.{Proposal, next_peer_request, next_peer_request_allowing_retry}
use Rattle.model.specs.Observation.{Decision, none, blame_staller, blame_timeout, evict, hedges, Seen, observe_blocked}
use Rattle.model.specs.Queries.{flag, query_values}
use Rattle.model.specs.Layout.{encode, window_of}
use Rattle.model.specs.Refusals.{Change, Call, opens, changes, queries, Moment, timeless, at, checks, refusal, requests, fetches, receives, credits, credits_duplicate, rejects, expires, requeues, releases, retires, retains, marks_unresponsive, confirms_probe, confirms_hedge, observes, sets_fanout, clears_preferred, plans, plans_retry}
use Rattle.model.specs.declared.Release.{Release}
use Rattle.model.specs.declared.Entry.{Entry}

-- ---- what an accepted change does

-- the window after it, what went, the values of its answer, and what it plans to ask for
pub record Deed : Type 0 where
  pub window : Window
  pub gone : List Release
  pub values : List ℕ
  pub plan : List Ask

abbrev pub leaves : Window → Deed
leaves w = record { window = w; gone = []; values = []; plan = [] }

abbrev pub answers : Window → List ℕ → Deed
answers w values = record { window = w; gone = []; values = values; plan = [] }

abbrev pub reports : Step → Deed
reports s = record { window = s.window; gone = s.gone; values = []; plan = [] }

abbrev pub reports_with : Step → List ℕ → Deed
reports_with s values = record { window = s.window; gone = s.gone; values = values; plan = [] }

-- how many entries a request has and its next height, where there is one
abbrev pub plan_values : List Ask → ℕ → List ℕ
plan_values [] next = []
plan_values (a ∷ asks) next = length (a ∷ asks) ∷ next ∷ []

unfoldable pub proposes : Proposal → Deed
proposes p = record { window = p.window; gone = p.gone; values = plan_values p.asks p.next; plan = p.asks }

-- SPECIFICATION 7.3: owned fetch says held, staged, asked or no capacity
abbrev pub fetch_values : Fetching → List ℕ
fetch_values held = 0 ∷ []
fetch_values staged = 1 ∷ []
fetch_values asked = 2 ∷ []
fetch_values no_capacity = 3 ∷ []

-- the height of the entry that was delivered, where there was one
abbrev pub height_values : Option Entry → List ℕ
height_values None = []
height_values (Some e) = e.height ∷ []

abbrev pub decision_values : Decision → List ℕ
decision_values none = 0 ∷ []
decision_values (blame_staller owner) = 1 ∷ owner ∷ []
decision_values (blame_timeout owner) = 2 ∷ owner ∷ []
decision_values (evict height h suppressed) = 3 ∷ height ∷ suppressed ∷ hash_words h
decision_values (hedges owner h) = 4 ∷ owner ∷ hash_words h

unfoldable pub requested : Window → ℕ → ℕ → Deed
requested w bytes n = answers w (flag (has_request_capacity bytes n w))

unfoldable pub observed : Seen → Deed
observed s = answers s.window (decision_values s.decision)

-- by the moment that its clock stands for
abbrev pub change : Change → ℕ → Window → Deed
change (requests c owner hashes heights next bytes n) now w = requested (mark_requested (asks_in hashes heights) owner next now w) bytes n
change (fetches c owner h height is_staged bytes n) now w =
    answers (mark_owned_fetch owner h height is_staged bytes n now w) (fetch_values (owned_fetch owner h is_staged bytes n w))
change (receives c h bytes source) now w = reports_with (mark_received_from h bytes source now w) (height_values (found h w.queue.pending))
change (credits c h source height) now w = reports (credit_delivery_from h source height now w)
change (credits_duplicate h source) now w = leaves (credit_duplicate_delivery h source w)
change (rejects c h source) now w = reports_with (reject_delivery h source now w) (flag (is_owner source (found h w.queue.pending)))
change (expires c) now w = reports (expire_pending now w)
change (requeues c h named) now w = reports (requeue_for_retry h named now w)
change (releases c h) now w = reports (release_pending h now w)
change (retires c height) now w = reports (retire_before height now w)
change (retains flags) now w = reports (retain_owned_by flags w)
change (marks_unresponsive c source) now w = leaves (mark_peer_unresponsive source now w)
change (confirms_probe c owner given alternates) now w = leaves (confirm_prefix_probe owner given alternates now w)
change (confirms_hedge owner alternate h) now w = leaves (confirm_cold_front_hedge owner alternate h w)
change (observes c l) now w = observed (observe_blocked l now w)
change (sets_fanout c n) now w = leaves (set_fanout_eligible_peers n now w)
change clears_preferred now w = leaves (clear_preferred_peer w)
change (plans c source l hash_words heights) now w = proposes (next_peer_request source l now w)
change (plans_retry c source l hash_words heights) now w = proposes (next_peer_request_allowing_retry source l now w)

-- the moment of a call; without a clock of its own, the last one
abbrev pub moment_of : Moment → ℕ → ℕ
moment_of timeless last = last
moment_of (at c) last = read_clock last c

-- SPECIFICATION 3.3: accepted changing calls that take a clock set the last clock, the others leave it
unfoldable pub changed : Change → Window → Deed
changed x w =
    let now = moment_of (checks x).moment w.clock in
    let d = change x now w in
    record { window = with_clock now d.window; gone = d.gone; values = d.values; plan = d.plan }

-- an opening starts anew, a query writes nothing
abbrev pub does : Call → Window → Deed
does (opens c b keys) w = leaves (opened c b keys)
does (changes x) w = changed x w
does (queries q) w = answers w (query_values q w)

-- ---- a call on lent words and a lent report

-- a refusal's number; or how many places of the report were filled, and the values
pub data Answer : Type 0 where
  refused : ℕ → Answer
  says : ℕ → List ℕ → Answer

-- by the refusal, 0 for none
abbrev pub words_by : ℕ → Call → List ℕ → List ℕ
words_by zero (opens c b keys) ws = encode (does (opens c b keys) (window_of ws)).window
words_by zero (changes x) ws = encode (does (changes x) (window_of ws)).window
words_by zero (queries q) ws = ws
words_by (suc n) call ws = ws

abbrev pub gone_by : ℕ → Call → List ℕ → List Release
gone_by zero call ws = (does call (window_of ws)).gone
gone_by (suc n) call ws = []

abbrev pub answer_by : ℕ → Call → List ℕ → Answer
answer_by zero call ws = says (length (does call (window_of ws)).gone) (does call (window_of ws)).values
answer_by (suc n) call ws = refused (suc n)

abbrev pub plan_by : ℕ → Call → List ℕ → List Ask
plan_by zero call ws = (does call (window_of ws)).plan
plan_by (suc n) call ws = []

unfoldable pub words_after : Call → List ℕ → ℕ → List ℕ
words_after call ws room = words_by (refusal call ws room) call ws

unfoldable pub gone_after : Call → List ℕ → ℕ → List Release
gone_after call ws room = gone_by (refusal call ws room) call ws

unfoldable pub answer_after : Call → List ℕ → ℕ → Answer
answer_after call ws room = answer_by (refusal call ws room) call ws

unfoldable pub plan_after : Call → List ℕ → ℕ → List Ask
plan_after call ws room = plan_by (refusal call ws room) call ws

pub record Outcome : Type 0 where
  pub answer : Answer
  pub words : List ℕ
  pub report : List Release
  pub plan : List Ask

-- THE PROMISE of every public function is in these words: what went stands in the report's first places, the others are unchanged. What is planned is
-- written so in the two lists that are lent for it (`written` of `ask_hashes` and of `ask_heights`)
unfoldable pub perform : Call → List ℕ → List Release → Outcome
perform call ws rs = record {
  answer = answer_after call ws (length rs);
  words = words_after call ws (length rs);
  report = gone_after call ws (length rs) ++ drop (length (gone_after call ws (length rs))) rs;
  plan = plan_after call ws (length rs);
}

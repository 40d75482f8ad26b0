-- What an answer of the code says: its number and values (SPECIFICATION 3.5, 4.1). Definitions only.
use Rattle.std.specs.Prelude.{ℕ, Bool, List, [], ◌∷◌, ⊤, Option, None, Some, Result, Ok, Err}
use Rattle.model.specs.Hash.{hash_words}
use Rattle.model.specs.Queries.{flag, source_values}
use Rattle.model.specs.Perform.{Answer, refused, says}
use Rattle.model.specs.declared.Refusal.{Refusal}
use Rattle.model.specs.declared.Refusal.TheVariants.{WordCount, NotAWindow, ShortReport, Clock, Settings, Seats, Listed, Many, Body, ShortOutput, Payload, Chain}
use Rattle.model.specs.declared.Fetch.{Fetch}
use Rattle.model.specs.declared.Fetch.TheVariants.{Held, Staged, Asked, NoCapacity}
use Rattle.model.specs.declared.Received.{Received}
use Rattle.model.specs.declared.Rejected.{Rejected}
use Rattle.model.specs.declared.Rejected.TheVariants.{ReleasedPending, DiscardedUnsolicited}
use Rattle.model.specs.declared.Blocked.{Blocked}
use Rattle.model.specs.declared.Blocked.TheVariants.{NoDecision, BlameStaller, BlamePendingTimeout, EvictStaged, HedgeColdFront}
use Rattle.model.specs.declared.Request.{Request}
use Rattle.model.specs.declared.NextRequest.{NextRequest}
use Rattle.model.specs.declared.Plan.{Plan}

-- ---- refusals

abbrev pub number : Refusal → ℕ
number WordCount = 1
number NotAWindow = 2
number ShortReport = 3
number Clock = 4
number Settings = 5
number Seats = 6
number Listed = 7
number Many = 8
number Body = 9
number ShortOutput = 10
number Payload = 11
number Chain = 12

-- 0 where nothing refuses
abbrev pub refusal_number : {A : Type 0} → Result A Refusal → ℕ
refusal_number (Ok a) = 0
refusal_number (Err r) = number r

-- the refusal's number, or what the answer of an accepted call says
abbrev pub says_by : {A : Type 0} → (A → Answer) → Result A Refusal → Answer
says_by accepted (Ok a) = accepted a
says_by accepted (Err r) = refused (number r)

-- ---- what an accepted call's answer says

abbrev pub unit_answer : ⊤ → Answer
unit_answer u = says 0 []

-- how many places of the report were filled
abbrev pub places_answer : ℕ → Answer
places_answer places = says places []

abbrev pub truth_answer : Bool → Answer
truth_answer b = says 0 (flag b)

abbrev pub number_answer : ℕ → Answer
number_answer x = says 0 (x ∷ [])

abbrev pub pair_answer : ℕ × ℕ → Answer
pair_answer p = says 0 (p.0 ∷ p.1 ∷ [])

abbrev pub perhaps_answer : Option ℕ → Answer
perhaps_answer x = says 0 (source_values x)

abbrev pub perhaps_pair_answer : Option (ℕ × ℕ) → Answer
perhaps_pair_answer None = says 0 []
perhaps_pair_answer (Some p) = says 0 (p.0 ∷ p.1 ∷ [])

abbrev pub fetch_answer : Fetch → Answer
fetch_answer Held = says 0 (0 ∷ [])
fetch_answer Staged = says 0 (1 ∷ [])
fetch_answer Asked = says 0 (2 ∷ [])
fetch_answer NoCapacity = says 0 (3 ∷ [])

abbrev pub received_answer : Received → Answer
received_answer r = says r.places (source_values r.height)

abbrev pub rejected_answer : Rejected → Answer
rejected_answer (ReleasedPending places) = says places (1 ∷ [])
rejected_answer DiscardedUnsolicited = says 0 (0 ∷ [])

abbrev pub blocked_answer : Blocked → Answer
blocked_answer NoDecision = says 0 (0 ∷ [])
blocked_answer (BlameStaller owner) = says 0 (1 ∷ owner ∷ [])
blocked_answer (BlamePendingTimeout owner) = says 0 (2 ∷ owner ∷ [])
blocked_answer (EvictStaged height h suppressed) = says 0 (3 ∷ height ∷ suppressed ∷ hash_words h)
blocked_answer (HedgeColdFront owner h) = says 0 (4 ∷ owner ∷ hash_words h)

-- the words of the planned hashes follow its three numbers
abbrev pub plan_answer : List ℕ → Option Plan → Answer
plan_answer hashes None = says 0 []
plan_answer hashes (Some p) = says 0 (p.owner ∷ p.count ∷ p.end_height ∷ hashes)

-- where there is a request, the number of its entries and its next height
abbrev pub request_values : Option Request → List ℕ
request_values None = []
request_values (Some r) = r.count ∷ r.next_height ∷ []

abbrev pub next_request_answer : NextRequest → Answer
next_request_answer n = says n.places (request_values n.request)

-- ---- the answers of the calls

abbrev pub accepted_says : Result ⊤ Refusal → Answer
accepted_says = says_by unit_answer

abbrev pub let_go_says : Result ℕ Refusal → Answer
let_go_says = says_by places_answer

-- whether there is room for more
abbrev pub requested_says : Result Bool Refusal → Answer
requested_says = says_by truth_answer

abbrev pub fetch_says : Result Fetch Refusal → Answer
fetch_says = says_by fetch_answer

abbrev pub received_says : Result Received Refusal → Answer
received_says = says_by received_answer

abbrev pub rejected_says : Result Rejected Refusal → Answer
rejected_says = says_by rejected_answer

abbrev pub blocked_says : Result Blocked Refusal → Answer
blocked_says = says_by blocked_answer

abbrev pub next_request_says : Result NextRequest Refusal → Answer
next_request_says = says_by next_request_answer

-- ---- the answers of the queries

abbrev pub truth_says : Result Bool Refusal → Answer
truth_says = says_by truth_answer

abbrev pub number_says : Result ℕ Refusal → Answer
number_says = says_by number_answer

abbrev pub pair_says : Result (ℕ × ℕ) Refusal → Answer
pair_says = says_by pair_answer

abbrev pub perhaps_says : Result (Option ℕ) Refusal → Answer
perhaps_says = says_by perhaps_answer

abbrev pub perhaps_pair_says : Result (Option (ℕ × ℕ)) Refusal → Answer
perhaps_pair_says = says_by perhaps_pair_answer

abbrev pub plan_says : Result (Option Plan) Refusal → List ℕ → Answer
plan_says r hashes = says_by (plan_answer hashes) r

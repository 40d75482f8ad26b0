-- Every public call with its arguments, what it checks, and the refusals 1 to 10 and 12. Definitions only.
use Rattle.std.specs.Prelude.{ℕ, suc, ◌+◌, ◌*◌, Bool, true, false, cond, not, ◌&&◌, List, [], ◌∷◌, length, eqb, leb, None, Some, Option}
use Rattle.model.specs.Places.{seats, word_count}
use Rattle.model.specs.Numbers.{max_clock, max_pending, max_seat, max_body, clock_ok}
use Rattle.model.specs.Lists.{all, any, every}
use Rattle.model.specs.Hash.{same}
use Rattle.model.specs.Window.{Window}
use Rattle.model.specs.Records.{found, is_there}
use Rattle.model.specs.Calls.{Ask, asks_in}
use Rattle.model.specs.Planning.{Lent}
use Rattle.model.specs.Observation.{Look}
use Rattle.model.specs.Queries.{Query, reads, asks_request_capacity, asks_compute_capacity, asks_expired_capacity, asks_has_expired, asks_cooldown, asks_probe_offered, asks_hedge_offered, asks_contains, asks_owner, asks_downloading, asks_count_for, asks_queue_start}
use Rattle.model.specs.Layout.{settings_ok, window_of, is_window}
use Rattle.model.specs.declared.Hash.{Hash}
use Rattle.model.specs.declared.Settings.{Settings}

-- the calls that may change an opened window; c is the clock
pub data Change : Type 0 where
  -- c, owner, hash words, heights, next request height, byte headroom, count headroom
  requests : ℕ → ℕ → List ℕ → List ℕ → ℕ → ℕ → ℕ → Change
  -- c, owner, hash, height, whether it is staged, byte headroom, count headroom
  fetches : ℕ → ℕ → Hash → ℕ → Bool → ℕ → ℕ → Change
  -- c, hash, bytes, source
  receives : ℕ → Hash → ℕ → Option ℕ → Change
  -- c, hash, source, pending height
  credits : ℕ → Hash → ℕ → Option ℕ → Change
  -- hash, source
  credits_duplicate : Hash → ℕ → Change
  -- c, hash, source
  rejects : ℕ → Hash → Option ℕ → Change
  -- c
  expires : ℕ → Change
  -- c, hash, named height
  requeues : ℕ → Hash → Option ℕ → Change
  -- c, hash
  releases : ℕ → Hash → Change
  -- c, height
  retires : ℕ → ℕ → Change
  -- flags by seat
  retains : List ℕ → Change
  -- c, source
  marks_unresponsive : ℕ → ℕ → Change
  -- c, owner, hash words, alternates
  confirms_probe : ℕ → ℕ → List ℕ → List ℕ → Change
  -- owner, alternate, hash
  confirms_hedge : ℕ → ℕ → Hash → Change
  -- c, what is seen
  observes : ℕ → Look → Change
  -- c, eligible peers
  sets_fanout : ℕ → ℕ → Change
  clears_preferred : Change
  -- c, source, what is lent and said for the plan; how many words are lent for its hashes, how many places for its heights
  plans : ℕ → ℕ → Lent → ℕ → ℕ → Change
  -- the same, of an expired or cooling source too
  plans_retry : ℕ → ℕ → Lent → ℕ → ℕ → Change

pub data Call : Type 0 where
  -- c, settings, keys
  opens : ℕ → Settings → List ℕ → Call
  changes : Change → Call
  queries : Query → Call

-- ---- what a call checks

-- the clock that a call takes, if it takes one
pub data Moment : Type 0 where
  timeless : Moment
  at : ℕ → Moment

-- whether it lets go on some window, and so wants a report; its clock; whether its peers are in range; what it refuses by its content (7 to 12)
pub record Checks : Type 0 where
  pub lets_go : Bool
  pub moment : Moment
  pub peers : Bool
  pub content : Window → ℕ

abbrev pub checking : Bool → Moment → Bool → (Window → ℕ) → Checks
checking l m p f = record { lets_go = l; moment = m; peers = p; content = f }

abbrev pub nothing : Window → ℕ
nothing w = 0

-- the number where the test fails, else the rest
abbrev pub test : ℕ → Bool → ℕ → ℕ
test n ok rest = cond ok rest n

-- 6: seats and keys are at most 255
abbrev pub seat_ok : ℕ → Bool
seat_ok s = leb s max_seat

abbrev pub source_ok : Option ℕ → Bool
source_ok None = true
source_ok (Some s) = seat_ok s

-- 6: 256 keys
unfoldable pub keys_ok : List ℕ → Bool
keys_ok keys = every (eqb (length keys) seats ∷ all seat_ok keys ∷ [])

-- 6: at most 256 alternates
unfoldable pub alternates_ok : List ℕ → Bool
alternates_ok alternates = every (leb (length alternates) seats ∷ all seat_ok alternates ∷ [])

-- 7: a hash is pending already or listed twice
unfoldable pub listed_once : List Ask → Bool
listed_once [] = true
listed_once (a ∷ l) = not (any (λ x. same x.hash a.hash) l) && listed_once l

unfoldable pub list_ok : List Ask → Window → Bool
list_ok l w = every (all (λ a. not (is_there (found a.hash w.queue.pending))) l ∷ listed_once l ∷ [])

-- 7, then 8: pending plus listed above 256
unfoldable pub request_refusal : List Ask → Window → ℕ
request_refusal l w = test 7 (list_ok l w) (test 8 (leb (length w.queue.pending + length l) max_pending) 0)

-- 9: a body above the limit
unfoldable pub body_refusal : ℕ → Window → ℕ
body_refusal bytes w = test 9 (leb bytes max_body) 0

-- 12: the chain list is not tip + 1 hashes long; then 10: a plan's list under 256 places
unfoldable pub plan_refusal : Lent → ℕ → ℕ → Window → ℕ
plan_refusal l hash_words heights w =
    test 12 (eqb (length l.chain) (4 * suc l.tip)) (test 10 (every (leb (4 * max_pending) hash_words ∷ leb max_pending heights ∷ [])) 0)

abbrev pub checks : Change → Checks
checks (requests c owner hashes heights next bytes n) = checking false (at c) (seat_ok owner) (request_refusal (asks_in hashes heights))
checks (fetches c owner h height is_staged bytes n) = checking false (at c) (seat_ok owner) nothing
checks (receives c h bytes source) = checking true (at c) (source_ok source) (body_refusal bytes)
checks (credits c h source height) = checking true (at c) (seat_ok source) nothing
checks (credits_duplicate h source) = checking false timeless (seat_ok source) nothing
checks (rejects c h source) = checking true (at c) (source_ok source) nothing
checks (expires c) = checking true (at c) true nothing
checks (requeues c h named) = checking true (at c) true nothing
checks (releases c h) = checking true (at c) true nothing
checks (retires c height) = checking true (at c) true nothing
checks (retains flags) = checking true timeless (eqb (length flags) seats) nothing
checks (marks_unresponsive c source) = checking false (at c) (seat_ok source) nothing
checks (confirms_probe c owner given alternates) = checking false (at c) (every (seat_ok owner ∷ alternates_ok alternates ∷ [])) nothing
checks (confirms_hedge owner alternate h) = checking false timeless (every (seat_ok owner ∷ seat_ok alternate ∷ [])) nothing
checks (observes c l) = checking false (at c) true nothing
checks (sets_fanout c n) = checking false (at c) true nothing
checks clears_preferred = checking false timeless true nothing
checks (plans c source l hash_words heights) = checking true (at c) (seat_ok source) (plan_refusal l hash_words heights)
checks (plans_retry c source l hash_words heights) = checking true (at c) (seat_ok source) (plan_refusal l hash_words heights)

-- a query that takes neither clock nor seat, one that takes a seat
abbrev pub asks_nothing : Checks
asks_nothing = checking false timeless true nothing

abbrev pub asks_seat : ℕ → Checks
asks_seat s = checking false timeless (seat_ok s) nothing

abbrev pub query_checks : Query → Checks
query_checks (reads r) = asks_nothing
query_checks (asks_request_capacity bytes n) = asks_nothing
query_checks (asks_compute_capacity s bytes n) = asks_seat s
query_checks (asks_expired_capacity c) = checking false (at c) true nothing
query_checks (asks_has_expired s c) = checking false (at c) (seat_ok s) nothing
query_checks (asks_cooldown s c) = checking false (at c) (seat_ok s) nothing
query_checks (asks_probe_offered s h) = asks_seat s
query_checks (asks_hedge_offered s h) = asks_seat s
query_checks (asks_contains h) = asks_nothing
query_checks (asks_owner h) = asks_nothing
query_checks (asks_downloading s) = asks_seat s
query_checks (asks_count_for s) = asks_seat s
query_checks (asks_queue_start s) = asks_seat s

-- ---- the lowest number that holds, or 0

abbrev pub moment_ok : Moment → ℕ → Bool
moment_ok timeless last = true
moment_ok (at c) last = clock_ok last c

-- 3: a report under 256 records, for a call that lets go on some window
unfoldable pub report_ok : Bool → ℕ → Bool
report_ok lets_go room = cond lets_go (leb max_pending room) true

-- of a window: 3, 4, 6, and 7 to 12; `room` is the report's length
unfoldable pub refusal_at : Checks → Window → ℕ → ℕ
refusal_at k w room = test 3 (report_ok k.lets_go room) (test 4 (moment_ok k.moment w.clock) (test 6 k.peers (k.content w)))

abbrev pub is_long : List ℕ → Bool
is_long ws = eqb (length ws) word_count

unfoldable pub window_refusal : Checks → List ℕ → ℕ → ℕ
window_refusal k ws room = test 1 (is_long ws) (test 2 (is_window ws) (refusal_at k (window_of ws) room))

-- an opening asks nothing of the words but their number: 1, 4 by the bound alone, 5, 6
unfoldable pub opening_refusal : ℕ → Settings → List ℕ → List ℕ → ℕ
opening_refusal c b keys ws = test 1 (is_long ws) (test 4 (leb c max_clock) (test 5 (settings_ok b) (test 6 (keys_ok keys) 0)))

-- of any words
abbrev pub refusal : Call → List ℕ → ℕ → ℕ
refusal (opens c b keys) ws room = opening_refusal c b keys ws
refusal (changes x) ws room = window_refusal (checks x) ws room
refusal (queries q) ws room = window_refusal (query_checks q) ws room

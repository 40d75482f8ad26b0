-- SPECIFICATION 10: fed the calls' arguments alone. The model's definitions, run on these over a window of the book's own, say what is refused,
-- an opened entry's values, and what goes, in which order, at which place and why; the lent words are not read. Definitions only.
use Rattle.std.specs.Prelude.{cond, List, [], ◌∷◌, ℕ, zero, suc, length, replicate}
use Rattle.model.specs.Hash.{same}
use Rattle.model.specs.Window.{Window}
use Rattle.model.specs.Records.{new_entry}
use Rattle.model.specs.Calls.{Ask, asks_in, Fetching, held, staged, asked, no_capacity, owned_fetch, opened}
use Rattle.model.specs.Refusals.{Change, Call, opens, changes, queries, checks, query_checks, refusal_at, opening_refusal, requests, fetches, receives, credits, credits_duplicate, rejects, expires, requeues, releases, retires, retains, marks_unresponsive, confirms_probe, confirms_hedge, observes, sets_fanout, clears_preferred, plans, plans_retry}
use Rattle.model.specs.Perform.{moment_of, changed, does}
use Rattle.model.specs.declared.Hash.{Hash}
use Rattle.model.specs.declared.Entry.{Entry}
use Rattle.model.specs.declared.Release.{Release}
use Rattle.model.specs.declared.Settings.{Settings}
use Rattle.history.specs.Run.{Act}

-- ---- lines

-- a line: an entry that was opened, and, once it was let go, the call, the place in that call's report, and the reason
pub data Line : Type 0 where
  waits : Entry → Line
  marked : Entry → ℕ → ℕ → ℕ → Line

-- a mark with its line's values
pub record Mark : Type 0 where
  pub call : ℕ
  pub place : ℕ
  pub reason : ℕ
  pub entry : Entry

-- opened are all lines
unfoldable pub opened_lines : List Line → List Entry
opened_lines [] = []
opened_lines (waits e ∷ ls) = e ∷ opened_lines ls
opened_lines (marked e i k r ∷ ls) = e ∷ opened_lines ls

-- pending are the unmarked ones
unfoldable pub pending_lines : List Line → List Entry
pending_lines [] = []
pending_lines (waits e ∷ ls) = e ∷ pending_lines ls
pending_lines (marked e i k r ∷ ls) = pending_lines ls

-- let go are the marked ones
unfoldable pub gone_lines : List Line → List Entry
gone_lines [] = []
gone_lines (waits e ∷ ls) = gone_lines ls
gone_lines (marked e i k r ∷ ls) = e ∷ gone_lines ls

unfoldable pub marks : List Line → List Mark
marks [] = []
marks (waits e ∷ ls) = marks ls
marks (marked e i k r ∷ ls) = record { call = i; place = k; reason = r; entry = e } ∷ marks ls

-- ---- what a call writes

-- the unmarked line of the hash h gets its mark: call, place and reason
unfoldable pub mark : Hash → ℕ → ℕ → ℕ → List Line → List Line
mark h i k r [] = []
mark h i k r (waits e ∷ ls) = cond (same e.hash h) (marked e i k r ∷ ls) (waits e ∷ mark h i k r ls)
mark h i k r (marked e j l q ∷ ls) = marked e j l q ∷ mark h i k r ls

-- those that the call i lets go, from the place k on
unfoldable pub mark_all : ℕ → ℕ → List Release → List Line → List Line
mark_all i k [] ls = ls
mark_all i k (g ∷ gs) ls = mark_all i (suc k) gs (mark g.entry.hash i k g.reason ls)

unfoldable pub add_lines : List Entry → List Line → List Line
add_lines [] ls = ls
add_lines (e ∷ es) ls = add_lines es (waits e ∷ ls)

-- the entries of a request's list, at the moment `now` and the mean `estimate`
unfoldable pub entries_of : List Ask → ℕ → ℕ → ℕ → List Entry
entries_of [] owner now estimate = []
entries_of (a ∷ rest) owner now estimate = new_entry a.hash owner now a.height estimate ∷ entries_of rest owner now estimate

-- an owned fetch opens one where it says asked
abbrev pub fetch_opens : Fetching → Entry → List Entry
fetch_opens held e = []
fetch_opens staged e = []
fetch_opens asked e = e ∷ []
fetch_opens no_capacity e = []

-- what an accepted change opens on the window w
abbrev pub opens_entries : Change → ℕ → Window → List Entry
opens_entries (requests c owner hashes heights next bytes n) now w = entries_of (asks_in hashes heights) owner now w.mean
opens_entries (fetches c owner h height is_staged bytes n) now w = fetch_opens (owned_fetch owner h is_staged bytes n w) (new_entry h owner now height w.mean)
opens_entries (receives c h bytes source) now w = []
opens_entries (credits c h source height) now w = []
opens_entries (credits_duplicate h source) now w = []
opens_entries (rejects c h source) now w = []
opens_entries (expires c) now w = []
opens_entries (requeues c h named) now w = []
opens_entries (releases c h) now w = []
opens_entries (retires c height) now w = []
opens_entries (retains flags) now w = []
opens_entries (marks_unresponsive c source) now w = []
opens_entries (confirms_probe c owner given alternates) now w = []
opens_entries (confirms_hedge owner alternate h) now w = []
opens_entries (observes c l) now w = []
opens_entries (sets_fanout c n) now w = []
opens_entries clears_preferred now w = []
-- a plan opens nothing: its entries are opened once the request is marked
opens_entries (plans c source l hash_words heights) now w = []
opens_entries (plans_retry c source l hash_words heights) now w = []

-- the lines after the call i, by its refusal (0 for none): an accepted opening empties the book, a refused call and a query leave it
abbrev pub writes : ℕ → ℕ → Call → Window → List Line → List Line
writes zero i (opens c b keys) w ls = []
writes zero i (changes x) w ls = mark_all i 0 (changed x w).gone (add_lines (opens_entries x (moment_of (checks x).moment w.clock) w) ls)
writes zero i (queries q) w ls = ls
writes (suc n) i call w ls = ls

abbrev pub own_by : ℕ → Call → Window → Window
own_by zero call w = (does call w).window
own_by (suc n) call w = w

-- ---- the book

-- the book's own window, how many calls there were, the lines
pub record Book : Type 0 where
  pub own : Window
  pub next : ℕ
  pub lines : List Line

-- what is refused, by the definitions: of a change and a query on the book's own window, of an opening on any 4,096 words. `room` is the length of
-- the lent report; what stands in it is not read
abbrev pub own_refusal : Call → Window → ℕ → ℕ
own_refusal (opens c b keys) w room = opening_refusal c b keys (replicate 4096 0)
own_refusal (changes x) w room = refusal_at (checks x) w room
own_refusal (queries q) w room = refusal_at (query_checks q) w room

unfoldable pub book_step : Act → Book → Book
book_step a b =
    let r = own_refusal a.call b.own (length a.lent) in
    record { own = own_by r a.call b.own; next = suc b.next; lines = writes r b.next a.call b.own b.lines }

unfoldable pub book : List Act → Book → Book
book [] b = b
book (a ∷ rest) b = book rest (book_step a b)

-- the book after the first opening, which is the call 0
abbrev pub new_book : ℕ → Settings → List ℕ → Book
new_book c b keys = record { own = opened c b keys; next = 1; lines = [] }

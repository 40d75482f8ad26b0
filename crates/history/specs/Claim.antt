-- DEMAND 3, over every list of calls: `Claim`, in plain words. Its proof from the invariant is `the_book_adds_up`, in proofs/Claim.antt. Definitions only.
use Rattle.std.specs.Prelude.{◌≡◌, ◌↔◌, true, ℕ, suc, ◌+◌, ◌≤◌, ◌<◌, length, take, get_or}
use Rattle.std.proofs.Math.Option.{some}
use mathlib.Core.List.{List, [], Memᴰ, Permᴰ}
use Rattle.std.proofs.Math.ListN.{get_elem?}
use Rattle.model.specs.Lists.{count}
use Rattle.model.specs.Hash.{same}
use Rattle.model.specs.Window.{Window}
use Rattle.model.specs.Records.{sum, pending_count_for}
use Rattle.model.specs.Seats.{oldest}
use Rattle.model.specs.Reasons.{release}
use Rattle.model.specs.Layout.{encode, window_of, is_window}
use Rattle.model.specs.Refusals.{refusal}
use Rattle.model.specs.Perform.{refused, says}
use Rattle.model.specs.declared.Hash.{Hash}
use Rattle.history.specs.Run.{Done}
use Rattle.history.specs.Book.{Mark, opened_lines, pending_lines, gone_lines, marks, Book}
use Rattle.history.specs.Reports.{places_at, names, AsLent, left_by, Made, Answered}
use Rattle.history.specs.Order.{delivers, InOrder}

-- `first` are the lent words before some calls, ws after them, w the window that is read from these, b the book of the calls, h the calls as they
-- were made, the latest first
pub record Claim (first ws : List ℕ) (w : Window) (b : Book) (h : List Done) : Type 0 where
  -- THE WORDS. There are 4,096 of them, they count as a window, and they are the words of the book's own window, which is read from them
  pub long : length ws ≡ 4096
  pub counts : is_window ws ≡ true
  pub own : ws ≡ encode b.own
  pub own_window : w ≡ b.own
  -- BYTES. The byte total in the lent words plus the estimates of the marked lines is the estimates of all lines
  pub adds_up : w.queue.total + sum (gone_lines b.lines) ≡ sum (opened_lines b.lines)
  -- the words' total is the sum over their records
  pub total : w.queue.total ≡ sum w.queue.pending
  -- RECORDS. The window's records are the unmarked lines, value for value, each as often
  pub records : Permᴰ w.queue.pending (pending_lines b.lines)
  -- of a hash at most one line is unmarked, so that a mark has one line to go to
  pub one_line : (x : Hash) → count (λ e. same e.hash x) (pending_lines b.lines) ≤ 1
  -- REPORTS. A mark names a call that was made and a place that its answer counts, which held the line's values and the reason when the call returned
  pub marks_true : (m : Mark) → Memᴰ m (marks b.lines) → (m.call < length h) × (get_elem? (places_at h m.call) m.place ≡ some (release m.entry m.reason))
  -- each place counted since the last accepted opening is named by the mark of just one line
  pub places_once : (i k : ℕ) → k < length (places_at h i) → count (names i k) (marks b.lines) ≡ 1
  -- the places after the count are as they were lent
  pub as_lent : (d : Done) → Memᴰ d h → AsLent d
  -- CALLS. The words are as the last call left them; so did each call find them, as the one before it left them (`Made`)
  pub left : ws ≡ left_by first h
  -- a call is answered by a refusal exactly where the definitions refuse it on the words that it found, old, and by their number
  pub refusals : (d : Done) (old : List ℕ) → Made first h d old → Answered (refusal d.act.call old (length d.act.lent)) d.outcome.answer
  -- a refused call leaves words and report as it found them, and plans nothing
  pub refused_leaves : (d : Done) (old : List ℕ) → Made first h d old → (k : ℕ) → d.outcome.answer ≡ refused k → (d.outcome.words ≡ old) × (d.outcome.report ≡ d.act.lent) × (d.outcome.plan ≡ [])
  -- ORDER. SPECIFICATION 3.4: "the delivered one first, the others by rising hash": so stand the n places that an answer counts. Delivered is the
  -- entry that the hash of a delivery had in the words that it found
  pub in_order : (d : Done) (old : List ℕ) → Made first h d old → (n : ℕ) (values : List ℕ) → d.outcome.answer ≡ says n values
      → InOrder (delivers d.act.call (window_of old).queue.pending) (take n d.outcome.report)
  -- SEATS. A seat's count plus its marked lines is its lines
  pub seats : (s : ℕ) → pending_count_for s w.queue.pending + pending_count_for s (gone_lines b.lines) ≡ pending_count_for s (opened_lines b.lines)
  -- a seat's start time (stored: 0 for none, t + 1 for t) is there exactly when it owns a record
  pub start_there : (s : ℕ) → s < 256 → (get_or w.queue.starts s 0 ≡ 0) ↔ (pending_count_for s w.queue.pending ≡ 0)
  -- no earlier than its oldest record's request time
  pub start_above : (s : ℕ) → s < 256 → oldest s w.queue.pending ≤ get_or w.queue.starts s 0
  -- no later than the last clock
  pub start_below : (s : ℕ) → s < 256 → get_or w.queue.starts s 0 ≤ suc w.clock

-- The entries of the window that the words hold, and what a step on them and on their seats is to the window. Assumes nothing.
use Rattle.std.specs.Prelude.{◌≡◌, true, cond, List, [], ◌∷◌, ℕ, zero, suc, ◌+◌, ◌-◌, ◌≤◌, ◌<◌, set, eqb, leb, ltb, Ok, Err}
use Rattle.std.proofs.Math.Path.{refl, sym, ap}
use Rattle.std.proofs.Common.{subst, ◌∙◌, suc-le-suc, zero-le, not-suc-le-zero, le_of_suc-le-suc, arith, get_or-take, eqb-true, leb-true, leb-false, ltb-true, le-ltb, inl, inr}
use Rattle.std.proofs.Math.ListN.{length, get_or, take, drop, replicate}
use Rattle.std.proofs.Math.Seq.{drop_at}
use Rattle.model.specs.Numbers.{greater}
use Rattle.laws.specs.Numbers.{both, greater_first, greater_second}
use Rattle.model.specs.Lists.{pad}
use Rattle.column.specs.Edits.{remove_at, insert_at, keep_by}
use Rattle.model.specs.Hash.{key, same}
use Rattle.model.specs.Records.{remove}
use Rattle.model.specs.Seats.{oldest, reset_owner_queue_start, start_reset, body_reset, start_noted, keep_seats}
use Rattle.model.specs.LettingGo.{without, kept, if_kept, flagged}
use Rattle.model.specs.Calls.{put, started, body_noted}
use Rattle.model.specs.Layout.{Table, blank, rising, decode, read, window_of, table, word, live, head_words, counts_words, small_words}
use Rattle.model.specs.Window.{Window, Queue, queue, with_queue}
use Rattle.model.specs.declared.Hash.{Hash}
use Rattle.model.specs.declared.Entry.{Entry}
use Rattle.laws.specs.Tables.{with_words, with_starts, with_bodies, removed, put_in, kept_rows}
use Rattle.laws.specs.Groups.{queue_in, removed_in, put_in_in, kept_in}
use Rattle.laws.specs.Whole.{Shaped, Whole, Holds, lifted, words_shaped}
use Rattle.records.specs.Places.{Finds, floored, here_found, free_found}
use Rattle.laws.specs.Tables.{seat_reset, kept_seats}
use Rattle.laws.specs.Marks.{keep_by_take}
use Rattle.records.specs.Cleared.{all_marked, length_all, none_stays}

empty : (l : List Entry) → length l ≡ 0 → l ≡ []
empty [] e = refl
empty (x ∷ l) e = absurd (omega (arith, e))

-- ---- the entries

module _ (ws : List ℕ) (h : Whole ws) where
  pub count_is : word 1 (decode ws) ≡ length (window_of ws).queue.pending
  unfolding word table head_words counts_words
  count_is = ap (word 1) (sym h.kept)

  pub few : length (window_of ws).queue.pending ≤ 256
  few = (words_shaped ws h.long).few

  pub live_is : (n : ℕ) → n ≡ length (window_of ws).queue.pending → take n (decode ws).entries ≡ (window_of ws).queue.pending
  unfolding window_of read live
  live_is n e = ap (λ (m : ℕ). take m (decode ws).entries) (e ∙ sym count_is)

  -- after them the rows are blank
  pub blank_after : (n : ℕ) → n ≡ length (window_of ws).queue.pending → drop n (decode ws).entries ≡ replicate (256 - n) blank
  unfolding table pad
  blank_after n e =
      let l = (window_of ws).queue.pending in
      ap (λ (t : Table). drop n t.entries) (sym h.kept) ∙ drop_at l (replicate (256 - length l) blank) n (sym e) ∙ ap (λ (m : ℕ). replicate (256 - m) blank) (sym e)

  pub entry_is : (i : ℕ) → i < length (window_of ws).queue.pending → get_or (decode ws).entries i blank ≡ get_or (window_of ws).queue.pending i blank
  entry_is i b =
      let n = length (window_of ws).queue.pending in
      sym (get_or-take n (decode ws).entries i blank b) ∙ ap (λ (l : List Entry). get_or l i blank) (live_is n refl)

-- ---- one out, one in, some kept

length_remove_at : (k : ℕ) (l : List Entry) → k < length l → suc (length (remove_at k l)) ≡ length l
length_remove_at zero [] h = absurd (not-suc-le-zero h)
length_remove_at zero (x ∷ l) h = refl
length_remove_at (suc k) [] h = absurd (not-suc-le-zero h)
length_remove_at (suc k) (x ∷ l) h = ap suc (length_remove_at k l (le_of_suc-le-suc h))

length_insert_at : (k : ℕ) (e : Entry) (l : List Entry) → length (insert_at k e l) ≡ suc (length l)
length_insert_at zero e l = refl
length_insert_at (suc k) e [] = refl
length_insert_at (suc k) e (x ∷ l) = ap suc (length_insert_at k e l)

length_keep_by : (ms : List ℕ) (l : List Entry) → length (keep_by ms l) ≤ length l
length_keep_by [] l = omega arith
length_keep_by (m ∷ ms) [] = omega arith
length_keep_by (zero ∷ ms) (x ∷ l) = omega (arith, length_keep_by ms l)
length_keep_by (suc m ∷ ms) (x ∷ l) = omega (arith, length_keep_by ms l)

-- the window's queue with another total and other entries
abbrev pub entries_put : ℕ → List Entry → Window → Window
entries_put n es w = with_queue (queue n es w.queue.starts w.queue.bodies) w

module _ (w : Window) (s : Shaped w) where
  pub out_in : (at n left : ℕ) → at < length w.queue.pending → suc n ≡ length w.queue.pending
      → with_words 3 (left ∷ []) (with_words 1 (n ∷ []) (removed at (table w))) ≡ table (entries_put left (remove_at at w.queue.pending) w)
  out_in at n left h e =
      let c : n ≡ length (remove_at at w.queue.pending) = omega (arith, length_remove_at at w.queue.pending h) in
      (λ i. with_words 3 (left ∷ []) (with_words 1 (c i ∷ []) (removed_in w s at h i))) ∙ queue_in w left (remove_at at w.queue.pending)

  pub out_few : (at : ℕ) → at < length w.queue.pending → length (remove_at at w.queue.pending) ≤ 256
  out_few at h = omega (arith, length_remove_at at w.queue.pending h, s.few)

  pub into_in : (at n more : ℕ) (e : Entry) → at ≤ length w.queue.pending → length w.queue.pending < 256 → n ≡ suc (length w.queue.pending)
      → with_words 3 (more ∷ []) (with_words 1 (n ∷ []) (put_in at e (table w))) ≡ table (entries_put more (insert_at at e w.queue.pending) w)
  into_in at n more e h b q =
      let c : n ≡ length (insert_at at e w.queue.pending) = omega (arith, length_insert_at at e w.queue.pending) in
      (λ i. with_words 3 (more ∷ []) (with_words 1 (c i ∷ []) (put_in_in w s at e h b i))) ∙ queue_in w more (insert_at at e w.queue.pending)

  pub into_few : (at : ℕ) (e : Entry) → length w.queue.pending < 256 → length (insert_at at e w.queue.pending) ≤ 256
  into_few at e b = omega (arith, length_insert_at at e w.queue.pending)

  pub some_in : (ms : List ℕ) (n left : ℕ) → length ms ≡ 256 → n ≡ length (keep_by (take (length w.queue.pending) ms) w.queue.pending)
      → with_words 3 (left ∷ []) (with_words 1 (n ∷ []) (kept_rows ms (table w))) ≡ table (entries_put left (keep_by (take (length w.queue.pending) ms) w.queue.pending) w)
  some_in ms n left h e =
      (λ i. with_words 3 (left ∷ []) (with_words 1 (e i ∷ []) (kept_in w s ms h i))) ∙ queue_in w left (keep_by (take (length w.queue.pending) ms) w.queue.pending)

  pub some_few : (ms : List ℕ) → length (keep_by ms w.queue.pending) ≤ 256
  some_few ms = omega (arith, length_keep_by ms w.queue.pending, s.few)

-- a found entry goes out by its hash, and one that is not there goes in by its hash
remove_alike : (g h : Hash) → key g ≡ key h → (l : List Entry) → remove g l ≡ remove h l
unfolding remove same
remove_alike g h e [] = refl
remove_alike g h e (x ∷ l) = λ i. cond (eqb (key x.hash) (e i)) l (x ∷ remove_alike g h e l i)

pub without_is : (h : Hash) (at : ℕ) (q : Queue) → rising q.pending ≡ true → Finds h q.pending (Ok at)
    → queue (q.total - (get_or q.pending at blank).estimate) (remove_at at q.pending) q.starts q.bodies ≡ without (get_or q.pending at blank) q
unfolding without same
without_is h at q r (f, (b, s)) =
    let e = get_or q.pending at blank in
    ap (λ (es : List Entry). queue (q.total - e.estimate) es q.starts q.bodies)
    (sym (remove_alike e.hash h (eqb-true (key e.hash) (key h) s) q.pending ∙ (here_found h q.pending at r (f, (b, s))).1))

pub put_is : (at : ℕ) (e : Entry) (q : Queue) → rising q.pending ≡ true → Finds e.hash q.pending (Err at)
    → queue (q.total + e.estimate) (insert_at at e q.pending) q.starts q.bodies ≡ put e q
unfolding put
put_is at e q r f = ap (λ (es : List Entry). queue (q.total + e.estimate) es q.starts q.bodies) (sym ((free_found e.hash q.pending at r f).1 e refl))

-- ---- seats

-- the stored time at or below which the oldest that is left leaves a seat's start as it is: that of the one removed, where the start is as late
unfoldable pub start_floor : ℕ → ℕ → ℕ
start_floor start removed = cond (ltb removed start) (suc removed) removed

floor_low : (start removed floor : ℕ) → floor ≡ start_floor start removed → (floor ≤ suc removed) × (floor ≡ suc removed → suc removed ≤ start)
unfolding start_floor
floor_low start removed floor e = elim (both (ltb removed start)) [
  | inl q ↦ let e' = rw q at e in (omega (arith, e'), λ _. ltb-true removed start q)
  | inr q ↦ let e' = rw q at e in (omega (arith, e'), λ f. absurd (omega (arith, e', f)))
]

-- one left that is as old leaves it
stays : (now t u start : ℕ) → suc u ≤ t → (suc u ≡ t → t ≤ start) → start_reset now t (suc u) start ≡ start
stays now t u start h k = elim (both (eqb t (suc u))) [
  | inl q ↦ let e = eqb-true t (suc u) q in rw (le-ltb t (suc u) h, q) (greater_first start (suc u) (omega (arith, e, k (sym e))))
  | inr q ↦ rw (le-ltb t (suc u) h, q)
]

-- so that the oldest is wanted above the floor alone
start_kept : (now removed start floor n : ℕ) → floor ≡ start_floor start removed → start_reset now (suc removed) (floored floor n) start ≡ start_reset now (suc removed) n start
start_kept now removed start floor zero e = refl
start_kept now removed start floor (suc u) e = elim (both (leb (suc u) floor)) [
  | inl q ↦
      let low = leb-true (suc u) floor q in
      let (most, late) = floor_low start removed floor e in
      let one : floor ≡ suc (floor - 1) = omega (arith, low) in
      ap (λ (o : ℕ). start_reset now (suc removed) o start) (greater_second (suc u) floor low ∙ one)
      ∙ stays now (suc removed) (floor - 1) start (omega (arith, one, most)) (λ s. late (one ∙ s))
      ∙ sym (stays now (suc removed) u start (omega (arith, low, most)) (λ s. late (omega (arith, low, most, s))))
  | inr q ↦ ap (λ (o : ℕ). start_reset now (suc removed) o start) (greater_first (suc u) floor (omega (arith, leb-false (suc u) floor q)))
]

greater_some : (u m : ℕ) → 0 < greater (suc u) m
greater_some u m = elim (both (leb (suc u) m)) [
  | inl q ↦ rw (greater_second (suc u) m (leb-true (suc u) m q)) (omega (arith, leb-true (suc u) m q))
  | inr q ↦ rw (greater_first (suc u) m (omega (arith, leb-false (suc u) m q))) (omega arith)
]

body_kept : (floor n body : ℕ) → body_reset (floored floor n) body ≡ body_reset n body
body_kept floor zero body = refl
body_kept floor (suc u) body =
    let one : greater (suc u) floor ≡ suc (greater (suc u) floor - 1) = omega (arith, greater_some u floor) in
    ap (λ (o : ℕ). body_reset o body) one

module _ (w : Window) where
  pub reset_in : (owner removed now start floor old : ℕ) → start ≡ get_or w.queue.starts owner 0 → floor ≡ start_floor start removed
      → old ≡ floored floor (oldest owner w.queue.pending)
      → seat_reset owner removed now old (table w) ≡ table (with_queue (reset_owner_queue_start owner removed now w.queue) w)
  unfolding seat_reset with_starts with_bodies table head_words counts_words small_words reset_owner_queue_start
  reset_in owner removed now start floor old s f e =
      let n = oldest owner w.queue.pending in
      let here = get_or w.queue.starts owner 0 in
      let body = get_or w.queue.bodies owner 0 in
      let at_floor = f ∙ ap (λ (x : ℕ). start_floor x removed) s in
      let starts_so = ap (λ (o : ℕ). start_reset now (suc removed) o here) e ∙ start_kept now removed here floor n at_floor in
      let bodies_so = ap (λ (o : ℕ). body_reset o body) e ∙ body_kept floor n body in
      λ i. table (with_queue (queue w.queue.total w.queue.pending (set w.queue.starts owner (starts_so i)) (set w.queue.bodies owner (bodies_so i))) w)

  pub kept_seats_in : (fs : List ℕ) → kept_seats fs (table w)
      ≡ table (with_queue (queue w.queue.total w.queue.pending (keep_seats (flagged fs) 0 w.queue.starts) (keep_seats (flagged fs) 0 w.queue.bodies)) w)
  unfolding kept_seats with_starts with_bodies table head_words counts_words small_words
  kept_seats_in fs = refl

  pub started_in : (owner now : ℕ) → with_starts (set (table w).starts owner (start_noted now (get_or (table w).starts owner 0))) (table w) ≡ table (with_queue (started owner now w.queue) w)
  unfolding with_starts table head_words counts_words small_words started
  started_in owner now = refl

  pub body_in : (owner now : ℕ) → with_bodies (set (table w).bodies owner (suc now)) (table w) ≡ table (body_noted owner now w)
  unfolding with_bodies table head_words counts_words small_words body_noted
  body_in owner now = refl

-- ---- the same on words, call by call

pub total_is : (ws : List ℕ) → word 3 (decode ws) ≡ (window_of ws).queue.total
unfolding window_of read
total_is ws = refl

pub start_is : (ws : List ℕ) (seat : ℕ) → get_or (decode ws).starts seat 0 ≡ get_or (window_of ws).queue.starts seat 0
unfolding window_of read
start_is ws seat = refl

module _ (ws : List ℕ) (h : Whole ws) where
  -- entries, count and total replaced, one after the other
  put_so : (ws₁ ws₂ ws₃ : List ℕ) (f : Table → Table) (n m : ℕ) (es : List Entry) → decode ws₁ ≡ f (decode ws) → decode ws₂ ≡ with_words 1 (n ∷ []) (decode ws₁)
      → decode ws₃ ≡ with_words 3 (m ∷ []) (decode ws₂) → length ws₃ ≡ length ws
      → with_words 3 (m ∷ []) (with_words 1 (n ∷ []) (f (table (window_of ws)))) ≡ table (entries_put m es (window_of ws)) → length es ≤ 256
      → Holds (entries_put m es (window_of ws)) ws₃
  put_so ws₁ ws₂ ws₃ f n m es a b c l e k =
      let s = words_shaped ws h.long in
      lifted ws ws₃ (λ t. with_words 3 (m ∷ []) (with_words 1 (n ∷ []) (f t))) (entries_put m es (window_of ws)) h l
      (c ∙ ap (with_words 3 (m ∷ [])) (b ∙ ap (with_words 1 (n ∷ [])) a)) e
      (record { few = k; starts = s.starts; bodies = s.bodies; keys = s.keys; cooling = s.cooling; racers = s.racers; hedged = s.hedged; planned = s.planned })

  pub taken : (ws₁ ws₂ ws₃ : List ℕ) (at : ℕ) (e : Entry) (total n : ℕ) → e ≡ get_or (window_of ws).queue.pending at blank → total ≡ word 3 (decode ws) → n ≡ word 1 (decode ws)
      → at < length (window_of ws).queue.pending → decode ws₁ ≡ removed at (decode ws) → decode ws₂ ≡ with_words 1 ((n - 1) ∷ []) (decode ws₁)
      → decode ws₃ ≡ with_words 3 ((total - e.estimate) ∷ []) (decode ws₂) → length ws₃ ≡ length ws
      → Holds (entries_put ((window_of ws).queue.total - (get_or (window_of ws).queue.pending at blank).estimate) (remove_at at (window_of ws).queue.pending) (window_of ws)) ws₃
  taken ws₁ ws₂ ws₃ at e total n p q r b d₁ d₂ d₃ l =
      let w = window_of ws in
      let s = words_shaped ws h.long in
      let same : total - e.estimate ≡ w.queue.total - (get_or w.queue.pending at blank).estimate = λ i. (q ∙ total_is ws) i - (p i).estimate in
      let one : suc (n - 1) ≡ length w.queue.pending = omega (arith, r ∙ count_is ws h) in
      subst (λ (m : ℕ). Holds (entries_put m (remove_at at w.queue.pending) w) ws₃) same
      (put_so ws₁ ws₂ ws₃ (removed at) (n - 1) (total - e.estimate) (remove_at at w.queue.pending) d₁ d₂ d₃ l (out_in w s at (n - 1) (total - e.estimate) b one) (out_few w s at b))

  pub given : (ws₁ ws₂ ws₃ : List ℕ) (at : ℕ) (e : Entry) (total n : ℕ) → total ≡ word 3 (decode ws) → n ≡ word 1 (decode ws) → at ≤ length (window_of ws).queue.pending
      → length (window_of ws).queue.pending < 256 → decode ws₁ ≡ put_in at e (decode ws) → decode ws₂ ≡ with_words 1 ((n + 1) ∷ []) (decode ws₁)
      → decode ws₃ ≡ with_words 3 ((total + e.estimate) ∷ []) (decode ws₂) → length ws₃ ≡ length ws
      → Holds (entries_put ((window_of ws).queue.total + e.estimate) (insert_at at e (window_of ws).queue.pending) (window_of ws)) ws₃
  given ws₁ ws₂ ws₃ at e total n q r b k d₁ d₂ d₃ l =
      let w = window_of ws in
      let s = words_shaped ws h.long in
      let same : total + e.estimate ≡ w.queue.total + e.estimate = ap (λ (t : ℕ). t + e.estimate) (q ∙ total_is ws) in
      let one : n + 1 ≡ suc (length w.queue.pending) = omega (arith, r ∙ count_is ws h) in
      subst (λ (m : ℕ). Holds (entries_put m (insert_at at e w.queue.pending) w) ws₃) same
      (put_so ws₁ ws₂ ws₃ (put_in at e) (n + 1) (total + e.estimate) (insert_at at e w.queue.pending) d₁ d₂ d₃ l (into_in w s at (n + 1) (total + e.estimate) e b k one) (into_few w s at e k))

  pub left_over : (ws₁ ws₂ ws₃ ms : List ℕ) (n total : ℕ) → length ms ≡ 256 → n ≡ length (keep_by (take (length (window_of ws).queue.pending) ms) (window_of ws).queue.pending)
      → decode ws₁ ≡ kept_rows ms (decode ws) → decode ws₂ ≡ with_words 1 (n ∷ []) (decode ws₁) → decode ws₃ ≡ with_words 3 (total ∷ []) (decode ws₂) → length ws₃ ≡ length ws
      → Holds (entries_put total (keep_by (take (length (window_of ws).queue.pending) ms) (window_of ws).queue.pending) (window_of ws)) ws₃
  left_over ws₁ ws₂ ws₃ ms n total k c d₁ d₂ d₃ l =
      let w = window_of ws in
      let s = words_shaped ws h.long in
      put_so ws₁ ws₂ ws₃ (kept_rows ms) n total _ d₁ d₂ d₃ l (some_in w s ms n total k c) (some_few w s (take (length w.queue.pending) ms))

  -- the same where none is left
  pub none_over : (ws₁ ws₂ ws₃ ms : List ℕ) (n total : ℕ) → n ≡ 0 → n ≡ length (keep_by (take (length (window_of ws).queue.pending) ms) (window_of ws).queue.pending)
      → decode ws₁ ≡ kept_rows all_marked (decode ws) → decode ws₂ ≡ with_words 1 (0 ∷ []) (decode ws₁) → decode ws₃ ≡ with_words 3 (total ∷ []) (decode ws₂) → length ws₃ ≡ length ws
      → Holds (entries_put total (keep_by (take (length (window_of ws).queue.pending) ms) (window_of ws).queue.pending) (window_of ws)) ws₃
  none_over ws₁ ws₂ ws₃ ms n total z c d₁ d₂ d₃ l =
      let es = (window_of ws).queue.pending in
      let gone : keep_by (take (length es) all_marked) es ≡ [] = keep_by_take all_marked es (omega (arith, few ws h, length_all)) ∙ none_stays es (few ws h) in
      let none : keep_by (take (length es) ms) es ≡ [] = empty (keep_by (take (length es) ms) es) (sym c ∙ z) in
      subst (λ (x : List Entry). Holds (entries_put total x (window_of ws)) ws₃) (gone ∙ sym none)
      (left_over ws₁ ws₂ ws₃ all_marked 0 total length_all (sym (ap length gone)) d₁ d₂ d₃ l)

  -- seats: starts and last bodies replaced
  pub seated : (ws₁ : List ℕ) (f : Table → Table) (ss bs : List ℕ) → length ws₁ ≡ length ws → decode ws₁ ≡ f (decode ws)
      → f (table (window_of ws)) ≡ table (with_queue (queue (window_of ws).queue.total (window_of ws).queue.pending ss bs) (window_of ws))
      → length ss ≡ length (window_of ws).queue.starts → length bs ≡ length (window_of ws).queue.bodies
      → Holds (with_queue (queue (window_of ws).queue.total (window_of ws).queue.pending ss bs) (window_of ws)) ws₁
  seated ws₁ f ss bs l d e a b =
      let s = words_shaped ws h.long in
      lifted ws ws₁ f _ h l d e
      (record { few = s.few; starts = a ∙ s.starts; bodies = b ∙ s.bodies; keys = s.keys; cooling = s.cooling; racers = s.racers; hedged = s.hedged; planned = s.planned })

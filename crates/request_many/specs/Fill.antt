-- All records written once, from the last to the first: what the words hold at each turn and at the end. Assumes nothing.
use Rattle.std.specs.Prelude.{◌≡◌, refl, ℕ, zero, suc, ◌+◌, ◌*◌, ◌-◌, ◌≤◌, ◌<◌, get_or, set, ltb}
use Rattle.std.proofs.Math.Path.{sym, ap}
use Rattle.std.proofs.Common.{subst, ◌∙◌, inl, inr, not-suc-le-zero, le_of_suc-le-suc, suc-mul, zero-mul, length-append, length-drop, take-append-drop, drop-drop, get_or-take, ltb-true, lt-ltb, le-ltb}
use mathlib.Core.List.{List, [], ◌∷◌, ◌++◌, map}
use native.Mathlib.Omega.{arith}
use Rattle.std.proofs.Math.ListN.{length, take, drop, replicate}
use Rattle.std.proofs.lemmas.List.{length-map}
use Rattle.std.proofs.Math.Seq.{drop_at, length-take-le}
use Rattle.column.proofs.Laws.{over, under_step, under_read, get_or_pad, length_pad}
use Rattle.model.specs.Numbers.{max_estimate}
use Rattle.model.specs.Lists.{pad}
use Rattle.model.specs.Records.{new_entry}
use Rattle.model.specs.Layout.{Table, decode, rows, blank, field, window_of, table}
use Rattle.model.specs.Window.{Window, Queue, queue, with_queue}
use Rattle.model.specs.Calls.{asks_in}
use Rattle.model.specs.declared.Entry.{Entry}
use Rattle.laws.specs.Numbers.{both}
use Rattle.laws.specs.Rows.{Upto, lift}
use Rattle.laws.specs.Tables.{sized_decode, with_entries, with_words}
use Rattle.laws.specs.Groups.{queue_in}
use Rattle.laws.specs.Whole.{Whole, Holds, lifted, words_shaped}
use Rattle.state_queue.specs.Steps.{live_is}
use Rattle.requests.specs.Asks.{hash_in}
use Rattle.requests.specs.Puts.{Ready}
use Rattle.requests.specs.Rows.{filled}
use Rattle.request_order.specs.Order.{Ordered}
use Rattle.request_order.specs.Rows.{row_at, in_order, ordered_puts, puts_is}

-- what the rows' writing asks: m records and 0 after them, and an order of `total` rows
pub record Fillable (ws hs ts os : List ℕ) (m total : ℕ) : Type 0 where
  pub long : length ws ≡ 4096
  pub start : m ≤ total
  pub few : total ≤ 256
  pub rows : total ≤ m + length (asks_in hs ts)
  pub order : Ordered (take m (decode ws).entries) hs total os
  pub blanks : drop m (decode ws).entries ≡ replicate (256 - m) blank

-- ---- one entry written

map_set : (f : Entry → ℕ) (l : List Entry) (k : ℕ) (e : Entry) → map f (set l k e) ≡ set (map f l) k (f e)
map_set f [] k e = refl
map_set f (x ∷ l) zero e = refl
map_set f (x ∷ l) (suc k) e = ap (λ (r : List ℕ). f x ∷ r) (map_set f l k e)

-- what it is to the column k
abbrev pub set_col : ℕ → Entry → ℕ → List ℕ → List ℕ
set_col at e k c = set c at (field k e)

pub decode_set : (at : ℕ) (e : Entry) (w₀ w : List ℕ) → length w₀ ≡ 4096 → Upto (set_col at e) 8 w₀ w
    → decode w ≡ with_entries (set (decode w₀).entries at e) (decode w₀)
unfolding decode with_entries
decode_set at e w₀ w l u =
    let from : (n m : ℕ) → 2048 + n ≡ m → drop m w ≡ drop m w₀ =
    λ n m q. ap (λ (i : ℕ). drop i w) (sym q) ∙ sym (drop-drop n 2048 w) ∙ ap (drop n) u.rest ∙ drop-drop n 2048 w₀ ∙ ap (λ (i : ℕ). drop i w₀) q in
    λ i. record {
      entries = lift (set_col at e) (λ (es : List Entry). set es at e) (λ k b es. map_set (field k) es at e) w₀ w l u i;
      spare = take 256 (u.rest i);
      starts = take 256 (from 256 2304 (omega arith) i);
      bodies = take 256 (from 512 2560 (omega arith) i);
      keys = take 256 (from 768 2816 (omega arith) i);
      cooling = take 256 (from 1024 3072 (omega arith) i);
      racers = take 256 (from 1280 3328 (omega arith) i);
      head = from 1536 3584 (omega arith) i;
    }

-- ---- a row, as the code reads it

module _ (es : List Entry) (hs ts : List ℕ) (owner now mean m o : ℕ) (n : length es ≡ 256) (few : m ≤ 256) where
  live : length (take m es) ≡ m
  live = length-take-le m es (omega arith)

  pub row_record : o < m → get_or es o blank ≡ row_at (take m es) hs ts owner now mean o
  unfolding row_at
  row_record h = rw (lt-ltb o (length (take m es)) (omega (arith, live))) (sym (get_or-take m es o blank h))

  pub row_ask : m ≤ o → new_entry (hash_in hs (4 * (o - m))) owner now (get_or ts (o - m) 0) mean ≡ row_at (take m es) hs ts owner now mean o
  unfolding row_at
  row_ask h = rw (le-ltb o (length (take m es)) (omega (arith, live)))
      (ap (λ (k : ℕ). new_entry (hash_in hs (4 * (o - k))) owner now (get_or ts (o - k) 0) mean) (sym live))

-- it is known by the records at its own place
row_same : (l l' : List Entry) (hs ts : List ℕ) (owner now mean o : ℕ) → length l ≡ length l' → (o < length l' → get_or l o blank ≡ get_or l' o blank)
    → row_at l hs ts owner now mean o ≡ row_at l' hs ts owner now mean o
unfolding row_at
row_same l l' hs ts owner now mean o n e = elim (both (ltb o (length l'))) [
  | inl q ↦ rw (n, q) (e (ltb-true o (length l') q))
  | inr q ↦ rw (n, q)
]

-- ---- the turns

mapped : (f : ℕ → Entry) (os : List ℕ) (k : ℕ) → k < length os → get_or (map f os) k blank ≡ f (get_or os k 0)
mapped f [] k h = absurd (not-suc-le-zero h)
mapped f (o ∷ os) zero h = refl
mapped f (o ∷ os) (suc k) h = mapped f os k (le_of_suc-le-suc h)

drop_blanks : (k n : ℕ) → k ≤ n → drop k (replicate n blank) ≡ replicate (n - k) blank
drop_blanks zero n h = let e : n ≡ n - 0 = omega arith in ap (λ (j : ℕ). replicate j blank) e
drop_blanks (suc k) zero h = absurd (not-suc-le-zero h)
drop_blanks (suc k) (suc n) h = let e : n - k ≡ suc n - suc k = omega arith in drop_blanks k n (le_of_suc-le-suc h) ∙ ap (λ (j : ℕ). replicate j blank) e

module _ (es : List Entry) (hs ts os : List ℕ) (m total owner now mean : ℕ) (n : length es ≡ 256) (start : m ≤ total) (few : total ≤ 256) (g : Ordered (take m es) hs total os)
    (blanks : drop m es ≡ replicate (256 - m) blank) where
  abbrev target : List Entry
  target = in_order (take m es) hs ts owner now mean total os

  abbrev padded : List Entry
  padded = pad 256 blank target

  pub length_target : length target ≡ total
  length_target = length-map (take total os) (row_at (take m es) hs ts owner now mean) ∙ length-take-le total os g.long

  length_padded : length padded ≡ 256
  unfolding pad
  length_padded = length_pad target 256 blank (omega (arith, length_target))

  at_target : (k : ℕ) → k < total → get_or padded k blank ≡ row_at (take m es) hs ts owner now mean (get_or os k 0)
  unfolding pad
  at_target k h =
      get_or_pad target (256 - length target) k blank
      ∙ mapped (row_at (take m es) hs ts owner now mean) (take total os) k (omega (arith, h, length-take-le total os g.long))
      ∙ ap (row_at (take m es) hs ts owner now mean) (get_or-take total os k 0 h)

  -- before the first turn
  pub fill_start : es ≡ over total es padded
  unfolding pad
  fill_start =
      let a : drop total padded ≡ replicate (256 - total) blank =
      drop_at target (replicate (256 - length target) blank) total length_target ∙ ap (λ (k : ℕ). replicate (256 - k) blank) length_target in
      let q : m + (total - m) ≡ total = omega arith in
      let p : 256 - m - (total - m) ≡ 256 - total = omega arith in
      let b : drop total es ≡ replicate (256 - total) blank =
      ap (λ (k : ℕ). drop k es) (sym q) ∙ sym (drop-drop (total - m) m es) ∙ ap (drop (total - m)) blanks
      ∙ drop_blanks (total - m) (256 - m) (omega arith) ∙ ap (λ (k : ℕ). replicate k blank) p in
      sym (take-append-drop total es) ∙ ap (λ (r : List Entry). take total es ++ r) (b ∙ sym a)

  length_over : (j : ℕ) → j ≤ total → length (over j es padded) ≡ 256
  length_over j h = simp (length-append, length-drop) (omega (arith, length_padded, length-take-le j es (omega arith)))

  -- a turn's row is the one at its place, since its record was not written over
  turn_row : (k j : ℕ) → j ≡ suc k → k < total → row_at (take m (over j es padded)) hs ts owner now mean (get_or os k 0) ≡ row_at (take m es) hs ts owner now mean (get_or os k 0)
  turn_row k j q h =
      let o = get_or os k 0 in
      let x = length-take-le m (over j es padded) (omega (arith, length_over j (omega arith))) in
      let y = length-take-le m es (omega arith) in
      row_same (take m (over j es padded)) (take m es) hs ts owner now mean o (x ∙ sym y)
      (λ b. get_or-take m (over j es padded) o blank (omega (arith, b, y)) ∙ under_read padded es j o blank (omega (arith, b, (g.each k h).later b)) (omega (arith, b, y))
      ∙ sym (get_or-take m es o blank (omega (arith, b, y))))

  pub fill_turn : (k j : ℕ) (cur : List Entry) (e : Entry) → j ≡ suc k → k < total → cur ≡ over j es padded
      → e ≡ row_at (take m cur) hs ts owner now mean (get_or os k 0) → set cur k e ≡ over k es padded
  fill_turn k j cur e q h c r =
      let v : e ≡ get_or padded k blank =
      r ∙ ap (λ (x : List Entry). row_at (take m x) hs ts owner now mean (get_or os k 0)) c ∙ turn_row k j q h ∙ sym (at_target k h) in
      ap (λ (x : List Entry). set x k e) (c ∙ ap (λ (i : ℕ). over i es padded) q)
      ∙ under_step padded es k e blank (omega (arith, length_padded)) (omega arith) v

-- the same on tables
pub with_same : (t : Table) → t ≡ with_entries t.entries t
unfolding with_entries
with_same t = refl

pub entries_turn : (d t t' : Table) (x y : List Entry) (k : ℕ) (e : Entry) → t ≡ with_entries x d → t' ≡ with_entries (set t.entries k e) t → set x k e ≡ y → t' ≡ with_entries y d
unfolding with_entries
entries_turn d t t' x y k e p q r = q ∙ (λ i. with_entries (set (p i).entries k e) (p i)) ∙ ap (λ (es : List Entry). with_entries es d) r

pub entries_now : (d t : Table) (x : List Entry) → t ≡ with_entries x d → t.entries ≡ x
unfolding with_entries
entries_now d t x p = ap (λ (u : Table). u.entries) p

-- the words w, where the rows from j on are written in place of those of ws
abbrev pub Filled : List ℕ → List ℕ → List ℕ → List ℕ → ℕ → ℕ → ℕ → ℕ → ℕ → ℕ → List ℕ → Type 0
Filled ws hs ts os m total owner now mean j w =
    (j ≤ total) × ((length w ≡ length ws)
    × (decode w ≡ with_entries (over j (decode ws).entries (pad 256 blank (in_order (take m (decode ws).entries) hs ts owner now mean total os))) (decode ws)))

module _ (ws hs ts os : List ℕ) (m total owner now mean : ℕ) (f : Fillable ws hs ts os m total) where
  abbrev es : List Entry
  es = (decode ws).entries

  long : length es ≡ 256
  long = (sized_decode ws f.long).entries

  pub filled_start : Filled ws hs ts os m total owner now mean total ws
  filled_start =
      (omega arith, (refl, with_same (decode ws) ∙ ap (λ (x : List Entry). with_entries x (decode ws)) (fill_start es hs ts os m total owner now mean long f.start f.few f.order f.blanks)))

  pub filled_turn : (j : ℕ) (w w' : List ℕ) (e : Entry) → 0 < j → Filled ws hs ts os m total owner now mean j w
      → e ≡ row_at (take m (decode w).entries) hs ts owner now mean (get_or os (j - 1) 0) → decode w' ≡ with_entries (set (decode w).entries (j - 1) e) (decode w)
      → length w' ≡ length w → Filled ws hs ts os m total owner now mean (j - 1) w'
  filled_turn j w w' e p i r d l =
      let now_is = entries_now (decode ws) (decode w) _ i.1.1 in
      let step = fill_turn es hs ts os m total owner now mean long f.start f.few f.order f.blanks (j - 1) j (decode w).entries e (omega arith) (omega (arith, i.0)) now_is r in
      (omega (arith, i.0), (l ∙ i.1.0, entries_turn (decode ws) (decode w) (decode w') _ _ (j - 1) e i.1.1 d (ap (λ (x : List Entry). set x (j - 1) e) (sym now_is) ∙ step)))

-- ---- count and total after them

module _ (ws : List ℕ) (h : Whole ws) where
  pub filled_so : (ws₁ ws₂ ws₃ : List ℕ) (es : List Entry) (n b : ℕ) → decode ws₁ ≡ with_entries (pad 256 blank es) (decode ws) → decode ws₂ ≡ with_words 1 (n ∷ []) (decode ws₁)
      → decode ws₃ ≡ with_words 3 (b ∷ []) (decode ws₂) → length ws₃ ≡ length ws → n ≡ length es → length es ≤ 256
      → Holds (with_queue (queue b es (window_of ws).queue.starts (window_of ws).queue.bodies) (window_of ws)) ws₃
  filled_so ws₁ ws₂ ws₃ es n b d₁ d₂ d₃ l e k =
      let w = window_of ws in
      let s = words_shaped ws h.long in
      lifted ws ws₃ (λ t. with_words 3 (b ∷ []) (with_words 1 (n ∷ []) (with_entries (pad 256 blank es) t))) (with_queue (queue b es w.queue.starts w.queue.bodies) w) h l
      (d₃ ∙ ap (with_words 3 (b ∷ [])) (d₂ ∙ ap (with_words 1 (n ∷ [])) d₁))
      ((λ i. with_words 3 (b ∷ []) (with_words 1 (e i ∷ []) (with_entries (pad 256 blank es) (table w)))) ∙ queue_in w b es)
      (record { few = k; starts = s.starts; bodies = s.bodies; keys = s.keys; cooling = s.cooling; racers = s.racers; hedged = s.hedged; planned = s.planned })

-- the rows in their order are what `puts` leaves
pub filled_is : (w : Window) (hs ts os : List ℕ) (owner now total b : ℕ) → w.mean ≤ max_estimate → Ready (asks_in hs ts) w.queue → total ≡ length w.queue.pending + length (asks_in hs ts)
    → Ordered w.queue.pending hs total os → b ≡ w.queue.total + length (asks_in hs ts) * w.mean
    → with_queue (queue b (in_order w.queue.pending hs ts owner now w.mean total os) w.queue.starts w.queue.bodies) w ≡ filled (asks_in hs ts) owner now w
filled_is w hs ts os owner now total b m r t g e =
    let l = w.queue.pending in
    ap (λ (q : Queue). with_queue q w)
    ((λ i. queue (e i) (ordered_puts l hs ts owner now w.mean w.queue total os refl m r t g i) w.queue.starts w.queue.bodies)
    ∙ sym (puts_is l hs ts owner now w.mean (asks_in hs ts) w.queue))

pub filled_words : (ws hs ts os : List ℕ) (m n owner now mean before : ℕ) (h : Whole ws) → (window_of ws).mean ≤ max_estimate → Ready (asks_in hs ts) (window_of ws).queue
    → m ≡ length (window_of ws).queue.pending → n ≡ length (asks_in hs ts) → Ordered (window_of ws).queue.pending hs (m + n) os
    → mean ≡ (window_of ws).mean → before ≡ (window_of ws).queue.total → (ws₁ ws₂ ws₃ : List ℕ)
    → decode ws₁ ≡ with_entries (pad 256 blank (in_order (take m (decode ws).entries) hs ts owner now mean (m + n) os)) (decode ws)
    → decode ws₂ ≡ with_words 1 ((m + n) ∷ []) (decode ws₁) → decode ws₃ ≡ with_words 3 ((before + n * mean) ∷ []) (decode ws₂) → length ws₃ ≡ length ws
    → Holds (filled (asks_in hs ts) owner now (window_of ws)) ws₃
filled_words ws hs ts os m n owner now mean before h most r em en g ee eb ws₁ ws₂ ws₃ d₁ d₂ d₃ k =
    let w = window_of ws in
    let es = in_order w.queue.pending hs ts owner now w.mean (m + n) os in
    let long : length es ≡ m + n = length-map (take (m + n) os) (row_at w.queue.pending hs ts owner now w.mean) ∙ length-take-le (m + n) os g.long in
    let d : decode ws₁ ≡ with_entries (pad 256 blank es) (decode ws) =
    d₁ ∙ (λ i. with_entries (pad 256 blank (in_order (live_is ws h m em i) hs ts owner now (ee i) (m + n) os)) (decode ws)) in
    subst (λ (v : Window). Holds v ws₃)
    (filled_is w hs ts os owner now (m + n) (before + n * mean) most r (omega (arith, em, en)) g (λ i. eb i + en i * ee i))
    (filled_so ws h ws₁ ws₂ ws₃ es (m + n) (before + n * mean) d d₂ d₃ k (sym long) (omega (arith, long, em, en, r.room)))

pub bytes_fit : (n mean total few : ℕ) → n + few ≤ 256 → mean ≤ max_estimate → total ≤ few * max_estimate → total + n * mean ≤ 18446744073709551615
bytes_fit n mean total few a b c = omega (arith, mul_le n mean max_estimate b)
  where
    mul_le : (n a b : ℕ) → a ≤ b → n * a ≤ n * b
    mul_le zero a b h = omega (arith, zero-mul a, zero-mul b)
    mul_le (suc n) a b h = omega (arith, suc-mul n a, suc-mul n b, mul_le n a b h)

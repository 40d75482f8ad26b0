-- What was swept and is asked for again, as a loop over the swept finds it. Definitions, and what they are to the model's. Assumes nothing.
use Rattle.std.specs.Prelude.{◌≡◌, refl, Bool, true, false, cond, not, ◌||◌, ℕ, zero, suc, ◌+◌, ◌-◌, ◌*◌, ◌%◌, ◌≤◌, ◌<◌, length, get_or, take, eqb, None, Option}
use Rattle.std.proofs.Math.Path.{sym, ap}
use Rattle.std.proofs.Common.{subst, ◌∙◌, true≢false, not-suc-le-zero, le_of_suc-le-suc, add-one, length-append, get_or-take, length-take-le, ltb-false}
use mathlib.Core.List.{List, [], ◌∷◌, ◌++◌, append_assoc, append-nil}
use native.Mathlib.Omega.{arith}
use Rattle.std.proofs.Math.ListN.{drop, drop_of_length-le}
use Rattle.std.proofs.Math.Dec.{ltb}
use Rattle.std.proofs.lemmas.Bool.{eqb-false}
use Rattle.model.specs.Numbers.{max_height}
use Rattle.model.specs.Hash.{hash_words}
use Rattle.model.specs.Window.{Window}
use Rattle.model.specs.Layout.{window_of, rising}
use Rattle.model.specs.Races.{by_height}
use Rattle.model.specs.Calls.{Ask}
use Rattle.model.specs.Planning.{Lent, Draft, draft, ask, and_ask, lower_of, names, is_pending, is_staged, is_refused, is_open, expired_request_entries, swept_asks, ask_hashes, ask_heights, written}
use Rattle.model.specs.declared.Hash.{Hash}
use Rattle.laws.specs.RequestsKept.{Low}
use Rattle.laws.specs.Whole.{Whole}
use Rattle.report_words.specs.Report.{releases_of}
use Rattle.batch.specs.Resets.{Went}
use Rattle.listed.specs.Index.{Indexed}
use Rattle.plan_lists.specs.Lists.{placed, hashes_put, heights_put}
use Rattle.swept_order.specs.Keys.{entry_from, asks_for, asks_by, low_height}

-- ---- what is read of what is lent

-- the staged and the refused hashes and the floor; the rest is not read
abbrev pub lent_for : List ℕ → List ℕ → ℕ → Lent
lent_for staged refused floor = record {
  chain = [];
  tip = 0;
  staged = staged;
  refused = refused;
  start = 0;
  best = 0;
  floor = floor;
  exhausted = false;
  bytes = 0;
  count = 0;
}

-- what was swept in the first n releases and is asked for again, after the sweep
unfoldable pub retries : List ℕ → List ℕ → ℕ → List ℕ → ℕ → List ℕ → ℕ → ℕ → Draft
retries staged refused floor words n gone batch bytes =
    expired_request_entries (lent_for staged refused floor) (window_of words) (swept_asks (releases_of n gone)) batch bytes None

-- it is the same for every Lent with these three
entries_alone : (l : Lent) (w : Window) (asks : List Ask) (room bytes : ℕ) (low : Option ℕ)
    → expired_request_entries l w asks room bytes low ≡ expired_request_entries (lent_for l.staged l.refused l.floor) w asks room bytes low
unfolding expired_request_entries is_refused is_open is_staged
entries_alone l w [] room bytes low = refl
entries_alone l w (a ∷ rest) room bytes low =
    let r = entries_alone l w rest room bytes (lower_of low a.height) in
    let p = entries_alone l w rest room bytes low in
    let t = entries_alone l w rest (room - 1) (bytes - w.mean) low in
    λ i. cond (eqb room 0 || ltb bytes w.mean) (draft [] bytes low)
    (cond (is_refused l a) (r i) (cond (ltb a.height l.floor || not (is_open l w a)) (p i) (and_ask a (t i))))

pub retries_are : (l : Lent) (words : List ℕ) (n : ℕ) (gone : List ℕ) (batch bytes : ℕ)
    → retries l.staged l.refused l.floor words n gone batch bytes ≡ expired_request_entries l (window_of words) (swept_asks (releases_of n gone)) batch bytes None
unfolding retries
retries_are l words n gone batch bytes = sym (entries_alone l (window_of words) (swept_asks (releases_of n gone)) batch bytes None)

-- ---- one of the swept, by what is asked of it

-- there is no room, or there are no bytes
abbrev pub full : ℕ → ℕ → ℕ → Bool
full room bytes mean = eqb room 0 || ltb bytes mean

-- under the floor, staged or pending
abbrev pub passed_by : List ℕ → ℕ → Window → Ask → Bool
passed_by staged floor w a = ltb a.height floor || (names staged a.hash || is_pending w a)

-- there is room, and there are bytes
or_false : (a b : Bool) → (a || b) ≡ false → (a ≡ false) × (b ≡ false)
or_false true b q = absurd (true≢false q)
or_false false b q = (refl, q)

pub room_left : (batch n bytes mean : ℕ) → full (batch - n) bytes mean ≡ false → (n < batch) × (mean ≤ bytes)
room_left batch n bytes mean q =
    let z = or_false (eqb (batch - n) 0) (ltb bytes mean) q in
    (omega (arith, eqb-false (batch - n) 0 z.0), ltb-false bytes mean z.1)

open_is : (p s : Bool) → (s || p) ≡ not (not (p || s))
open_is true true = refl
open_is true false = refl
open_is false true = refl
open_is false false = refl

module _ (l : Lent) (w : Window) (a : Ask) (rest : List Ask) (room bytes : ℕ) (low : Option ℕ) where
  stops : full room bytes w.mean ≡ true → expired_request_entries l w (a ∷ rest) room bytes low ≡ draft [] bytes low
  unfolding expired_request_entries
  stops q = rw q

  module _ (q : full room bytes w.mean ≡ false) where
    notes : is_refused l a ≡ true
        → expired_request_entries l w (a ∷ rest) room bytes low ≡ expired_request_entries l w rest room bytes (lower_of low a.height)
    unfolding expired_request_entries
    notes r = rw (q, r)

    closed : passed_by l.staged l.floor w a ≡ (ltb a.height l.floor || not (is_open l w a))
    unfolding is_open is_staged
    closed = ap (λ (b : Bool). ltb a.height l.floor || b) (open_is (is_pending w a) (names l.staged a.hash))

    skips : is_refused l a ≡ false → passed_by l.staged l.floor w a ≡ true
        → expired_request_entries l w (a ∷ rest) room bytes low ≡ expired_request_entries l w rest room bytes low
    unfolding expired_request_entries
    skips r p = rw (q, r, sym closed ∙ p)

    takes : is_refused l a ≡ false → passed_by l.staged l.floor w a ≡ false
        → expired_request_entries l w (a ∷ rest) room bytes low ≡ and_ask a (expired_request_entries l w rest (room - 1) (bytes - w.mean) low)
    unfolding expired_request_entries
    takes r p = rw (q, r, sym closed ∙ p)

-- ---- the asks of the keys

asks_drop : (core ks : List ℕ) (i : ℕ) → i < length ks → drop i (asks_by core ks) ≡ asks_for (entry_from core (get_or ks i 0 % 256)) ∷ drop (suc i) (asks_by core ks)
unfolding asks_by
asks_drop core [] i h = absurd (not-suc-le-zero h)
asks_drop core (k ∷ ks) zero h = refl
asks_drop core (k ∷ ks) (suc i) h = asks_drop core ks i (le_of_suc-le-suc h)

asks_long : (core ks : List ℕ) → length (asks_by core ks) ≡ length ks
unfolding asks_by
asks_long core [] = refl
asks_long core (k ∷ ks) = ap suc (asks_long core ks)

low_drop : (asks : List Ask) (i : ℕ) (a : Ask) (rest : List Ask) → Low asks → drop i asks ≡ a ∷ rest → a.height ≤ max_height
low_drop asks zero a rest h e = (subst Low e h).0
low_drop [] (suc i) a rest h e = absurd (omega (arith, ap length e))
low_drop (x ∷ asks) (suc i) a rest h e = low_drop asks i a rest h.1 e

-- ---- what a caller lends and gets

pub record Lends (words gone hs ts ix : List ℕ) (n batch : ℕ) : Type 0 where
  pub whole : Whole words
  pub rises : rising (window_of words).queue.pending ≡ true
  pub long : length gone ≡ 2304
  pub few : n ≤ 256
  pub low : Went low_height (releases_of n gone)
  pub hashes : 4 * batch ≤ length hs
  pub heights : batch ≤ length ts
  pub index : Indexed 0 hs ix

-- the lent lists hold the draft d, and the numbers say it: n entries, the bytes left, the lowest refused height
pub record Drafted (d : Draft) (batch : ℕ) (hs₀ ts₀ hs ts ix : List ℕ) (n left : ℕ) (lowest : Option ℕ) : Type 0 where
  pub count : n ≡ length d.asks
  pub few : n ≤ batch
  pub hashes : hs ≡ written (ask_hashes d.asks) hs₀
  pub heights : ts ≡ written (ask_heights d.asks) ts₀
  pub bytes : left ≡ d.bytes
  pub low : lowest ≡ d.low
  pub index : Indexed n hs ix

-- ---- the loop: what is taken of the first i, and what the others come to, are all

abbrev and_asks : List Ask → Draft → Draft
and_asks taken d = draft (taken ++ d.asks) d.bytes d.low

and_more : (taken : List Ask) (a : Ask) (d : Draft) → and_asks taken (and_ask a d) ≡ and_asks (taken ++ (a ∷ [])) d
and_more taken a d = ap (λ (x : List Ask). draft x d.bytes d.low) (sym (append_assoc taken (a ∷ []) d.asks))

pub record Going (l : Lent) (w : Window) (asks : List Ask) (batch bytes : ℕ) (hs₀ ts₀ ix₀ hs ts ix : List ℕ) (n left : ℕ) (lowest : Option ℕ) (i : ℕ) : Type 0 where
  pub taken : List Ask
  pub count : n ≡ length taken
  pub few : n ≤ batch
  pub hashes : hs ≡ written (ask_hashes taken) hs₀
  pub heights : ts ≡ written (ask_heights taken) ts₀
  pub index : Indexed n hs ix
  pub long_hashes : length hs ≡ length hs₀
  pub long_heights : length ts ≡ length ts₀
  pub long_index : length ix ≡ length ix₀
  pub is : expired_request_entries l w asks batch bytes None ≡ and_asks taken (expired_request_entries l w (drop i asks) (batch - n) left lowest)

module _ (l : Lent) (w : Window) (asks : List Ask) (batch bytes : ℕ) (hs₀ ts₀ ix₀ : List ℕ) where
  pub going_start : Indexed 0 hs₀ ix₀ → Going l w asks batch bytes hs₀ ts₀ ix₀ hs₀ ts₀ ix₀ 0 bytes None 0
  unfolding ask_hashes ask_heights written
  going_start g =
      let e : batch ≡ batch - 0 = omega arith in
      record {
        taken = [];
        count = refl;
        few = omega arith;
        hashes = refl;
        heights = refl;
        index = g;
        long_hashes = refl;
        long_heights = refl;
        long_index = refl;
        is = ap (λ (room : ℕ). expired_request_entries l w asks room bytes None) e;
      }

  module _ (hs ts ix : List ℕ) (n left : ℕ) (lowest : Option ℕ) (i : ℕ) (g : Going l w asks batch bytes hs₀ ts₀ ix₀ hs ts ix n left lowest i) where
    -- what is left comes to nothing
    ends : expired_request_entries l w (drop i asks) (batch - n) left lowest ≡ draft [] left lowest
        → Drafted (expired_request_entries l w asks batch bytes None) batch hs₀ ts₀ hs ts ix n left lowest
    ends q =
        let e : expired_request_entries l w asks batch bytes None ≡ draft g.taken left lowest =
        g.is ∙ ap (and_asks g.taken) q ∙ ap (λ (x : List Ask). draft x left lowest) (append-nil g.taken) in
        rw e (record { count = g.count; few = g.few; hashes = g.hashes; heights = g.heights; bytes = refl; low = refl; index = g.index })

    pub going_end : length asks ≤ i → Drafted (expired_request_entries l w asks batch bytes None) batch hs₀ ts₀ hs ts ix n left lowest
    unfolding expired_request_entries
    going_end h =
        let none : drop i asks ≡ [] = drop_of_length-le asks {i = i} h in
        ends (ap (λ (x : List Ask). expired_request_entries l w x (batch - n) left lowest) none)

    module _ (mean : ℕ) (same : mean ≡ w.mean) (a : Ask) (next : drop i asks ≡ a ∷ drop (suc i) asks) where
      abbrev rest : List Ask
      rest = drop (suc i) asks

      by_next : expired_request_entries l w (drop i asks) (batch - n) left lowest ≡ expired_request_entries l w (a ∷ rest) (batch - n) left lowest
      by_next = ap (λ (x : List Ask). expired_request_entries l w x (batch - n) left lowest) next

      of_window : full (batch - n) left w.mean ≡ full (batch - n) left mean
      of_window = ap (full (batch - n) left) (sym same)

      pub going_stop : full (batch - n) left mean ≡ true → Drafted (expired_request_entries l w asks batch bytes None) batch hs₀ ts₀ hs ts ix n left lowest
      going_stop q = ends (by_next ∙ stops l w a rest (batch - n) left lowest (of_window ∙ q))

      module _ (q : full (batch - n) left mean ≡ false) where
        pub going_refused : (lower : Option ℕ) → is_refused l a ≡ true → lower ≡ lower_of lowest a.height
            → Going l w asks batch bytes hs₀ ts₀ ix₀ hs ts ix n left lower (i + 1)
        going_refused lower r e = rw add-one (record {
          taken = g.taken;
          count = g.count;
          few = g.few;
          hashes = g.hashes;
          heights = g.heights;
          index = g.index;
          long_hashes = g.long_hashes;
          long_heights = g.long_heights;
          long_index = g.long_index;
          is = g.is ∙ ap (and_asks g.taken) (by_next ∙ notes l w a rest (batch - n) left lowest (of_window ∙ q) r
              ∙ ap (expired_request_entries l w rest (batch - n) left) (sym e));
        })

        module _ (r : is_refused l a ≡ false) where
          pub going_passed : passed_by l.staged l.floor w a ≡ true → Going l w asks batch bytes hs₀ ts₀ ix₀ hs ts ix n left lowest (i + 1)
          going_passed p = rw add-one (record {
            taken = g.taken;
            count = g.count;
            few = g.few;
            hashes = g.hashes;
            heights = g.heights;
            index = g.index;
            long_hashes = g.long_hashes;
            long_heights = g.long_heights;
            long_index = g.long_index;
            is = g.is ∙ ap (and_asks g.taken) (by_next ∙ skips l w a rest (batch - n) left lowest (of_window ∙ q) r p);
          })

          pub going_taken : (hs' ts' ix' : List ℕ) → passed_by l.staged l.floor w a ≡ false
              → hs' ≡ placed (4 * n) (hash_words a.hash) hs → ts' ≡ placed n (a.height ∷ []) ts → Indexed (n + 1) hs' ix'
              → length hs' ≡ length hs → length ts' ≡ length ts → length ix' ≡ length ix
              → Going l w asks batch bytes hs₀ ts₀ ix₀ hs' ts' ix' (n + 1) (left - mean) lowest (i + 1)
          going_taken hs' ts' ix' p eh et x lh lt lx =
              let room : batch - n - 1 ≡ batch - (n + 1) = omega arith in
              let more : n < batch = (room_left batch n left mean q).0 in
              rw (add-one i) (record {
                taken = g.taken ++ (a ∷ []);
                count = omega (arith, g.count, length-append g.taken (a ∷ []));
                few = omega (arith, more);
                hashes = eh ∙ hashes_put g.taken a hs₀ hs n g.count g.hashes;
                heights = et ∙ heights_put g.taken a ts₀ ts n g.count g.heights;
                index = x;
                long_hashes = lh ∙ g.long_hashes;
                long_heights = lt ∙ g.long_heights;
                long_index = lx ∙ g.long_index;
                is = g.is ∙ ap (and_asks g.taken) (by_next ∙ takes l w a rest (batch - n) left lowest (of_window ∙ q) r p)
                    ∙ and_more g.taken a (expired_request_entries l w rest (batch - n - 1) (left - w.mean) lowest)
                    ∙ (λ j. and_asks (g.taken ++ (a ∷ [])) (expired_request_entries l w rest (room j) (left - sym same j) lowest));
              })

-- ---- the swept, in the order of their keys

module _ (core keys : List ℕ) (n : ℕ) (room : n ≤ length keys) (asks : List Ask) (e : asks ≡ asks_by core (take n keys)) where
  pub asks_count : length asks ≡ n
  asks_count = ap length e ∙ asks_long core (take n keys) ∙ length-take-le n keys room

  -- the one at i
  pub next_ask : (i : ℕ) → i < n → drop i asks ≡ asks_for (entry_from core (get_or keys i 0 % 256)) ∷ drop (suc i) asks
  next_ask i h =
      let k : get_or (take n keys) i 0 ≡ get_or keys i 0 = get_or-take n keys i 0 h in
      ap (drop i) e ∙ asks_drop core (take n keys) i (omega (arith, length-take-le n keys room))
      ∙ (λ j. asks_for (entry_from core (k j % 256)) ∷ drop (suc i) (sym e j))

  module _ (i : ℕ) (h : Hash) (height : ℕ) (below : i < n) (eh : h ≡ (entry_from core (get_or keys i 0 % 256)).hash) (et : height ≡ (entry_from core (get_or keys i 0 % 256)).height) where
    -- by its hash and its height
    pub next_is : drop i asks ≡ ask h height ∷ drop (suc i) asks
    next_is = next_ask i below ∙ (λ j. ask (sym eh j) (sym et j) ∷ drop (suc i) asks)

    -- which has 32 bits
    pub next_low : Low asks → height ≤ max_height
    next_low l = low_drop asks i (ask h height) (drop (suc i) asks) l next_is

-- ---- none was swept

no_asks : (n : ℕ) (core : List ℕ) → n ≡ 0 → length (swept_asks (releases_of n core)) ≤ 0
unfolding swept_asks releases_of by_height
no_asks zero core z = omega arith
no_asks (suc n) core z = absurd (omega arith)

pub none_swept : (staged refused words gone hs ts ix : List ℕ) (floor n batch bytes : ℕ) → n ≡ 0 → Indexed 0 hs ix
    → Drafted (retries staged refused floor words n gone batch bytes) batch hs ts hs ts ix 0 bytes None
unfolding retries
none_swept staged refused words gone hs ts ix floor n batch bytes z g =
    let l = lent_for staged refused floor in
    let w = window_of words in
    let asks = swept_asks (releases_of n gone) in
    going_end l w asks batch bytes hs ts ix hs ts ix 0 bytes None 0 (going_start l w asks batch bytes hs ts ix g) (no_asks n gone z)

-- The given hashes as rows, rows compared, the seats that enter, and the confirmation case by case. Assumes nothing.
use Rattle.std.specs.Prelude.{◌≡◌, Bool, true, false, ◌&&◌, get_or, set, drop, replicate, eqb, leb}
use Rattle.std.proofs.Math.Path.{refl, ap}
use Rattle.std.proofs.Common.{sym, ◌∙◌, not-suc-le-zero, le_of_suc-le-suc, drop-cons}
use Rattle.std.proofs.Math.Bool.{cond}
use mathlib.Core.List.{List, [], ◌∷◌, ◌++◌}
use Prim.Native.Nat.{ℕ, zero, suc, ◌+◌, ◌-◌, ◌*◌, ◌≤◌, ◌<◌}
use native.Mathlib.Omega.{arith}
use Rattle.std.proofs.Math.ListN.{length}
use borrow.Author.Tests.{eq-eqb, ne_eqb, lt-leb, le-leb, leb-true}
use Rattle.model.specs.Numbers.{max_seat}
use Rattle.model.specs.Lists.{pad, all}
use Rattle.model.specs.Hash.{hash, key, same, same_hashes, hashes_in, hashes_words}
use Rattle.model.specs.Layout.{planned_words}
use Rattle.model.specs.Races.{Planned, no_plan, planned, win_blocks, prefix_probe_plan, entered, probe_started, confirm_by, is_empty, confirm_prefix_probe}
use Rattle.model.specs.Refusals.{seat_ok}
use Rattle.model.specs.Window.{Window, with_probe}
use Rattle.model.specs.declared.Hash.{Hash}
use Rattle.laws.specs.Numbers.{and_left, and_right}
use Rattle.laws.specs.Heads.{hashes_back}
use Rattle.laws.specs.Tables.{length_hashes}
use Rattle.plans.specs.Rows.{row_hash, hashes_from, rows_words, rows_hashes, hashes_rows}
use Rattle.probe_plan.specs.Plans.{planned_by, Plans}
use Rattle.probe_plan.specs.declared.Planning.{Planning}
use Rattle.probe_hashes.specs.Rows.{none, hashes_of, Rows, rows_first, rows_of, plan_length}

-- four words from k on
abbrev pub words_in : List ℕ → ℕ → List ℕ
words_in l k = get_or l k 0 ∷ get_or l (k + 1) 0 ∷ get_or l (k + 2) 0 ∷ get_or l (k + 3) 0 ∷ []

-- ---- the given hashes

-- as many as there are whole
pub given_count : (n : ℕ) (l : List ℕ) → length l ≡ 4 * n → length (hashes_in l) ≡ n
unfolding hashes_in
given_count zero [] e = refl
given_count (suc n) [] e = absurd (omega arith)
given_count n (a ∷ []) e = absurd (omega arith)
given_count n (a ∷ b ∷ []) e = absurd (omega arith)
given_count n (a ∷ b ∷ c ∷ []) e = absurd (omega arith)
given_count zero (a ∷ b ∷ c ∷ d ∷ l) e = absurd (omega arith)
given_count (suc n) (a ∷ b ∷ c ∷ d ∷ l) e = ap suc (given_count n l (omega arith))

-- the words of one
pub given_row : (l : List ℕ) (i : ℕ) → 4 * i + 4 ≤ length l → row_hash (words_in l (4 * i)) ≡ get_or (hashes_in l) i none
unfolding hashes_in
given_row [] i h = absurd (omega arith)
given_row (a ∷ []) i h = absurd (omega arith)
given_row (a ∷ b ∷ []) i h = absurd (omega arith)
given_row (a ∷ b ∷ c ∷ []) i h = absurd (omega arith)
given_row (a ∷ b ∷ c ∷ d ∷ l) zero h = refl
given_row (a ∷ b ∷ c ∷ d ∷ l) (suc i) h =
    (λ j. hash (up (4 * suc i) (4 * i) (omega arith) j) (up (4 * suc i + 1) (4 * i + 1) (omega arith) j) (up (4 * suc i + 2) (4 * i + 2) (omega arith) j)
    (up (4 * suc i + 3) (4 * i + 3) (omega arith) j))
    ∙ given_row l i (omega arith)
  where
    up : (m n : ℕ) → m ≡ suc (suc (suc (suc n))) → get_or (a ∷ b ∷ c ∷ d ∷ l) m 0 ≡ get_or l n 0
    up m n q = ap (λ (x : ℕ). get_or (a ∷ b ∷ c ∷ d ∷ l) x 0) q

-- ---- rows compared

same_self : (hs : List Hash) → same_hashes hs hs ≡ true
unfolding same_hashes same
same_self [] = refl
same_self (h ∷ hs) = rw (eq-eqb (key h) (key h) refl) (same_self hs)

same_append : (hs gs r : List Hash) → length hs ≡ length gs → same_hashes (hs ++ r) (gs ++ r) ≡ same_hashes hs gs
unfolding same_hashes
same_append [] [] r e = same_self r
same_append [] (g ∷ gs) r e = absurd (omega arith)
same_append (h ∷ hs) [] r e = absurd (omega arith)
same_append (h ∷ hs) (g ∷ gs) r e = ap (λ (b : Bool). same h g && b) (same_append hs gs r (omega arith))

padded_hashes : (n : ℕ) (hs : List Hash) (rows : List (List ℕ)) → length hs ≡ n → rows_words 8 rows ≡ planned_words hs → rows_hashes 8 rows ≡ hs ++ hashes_in (replicate (32 - 4 * n) 0)
unfolding planned_words pad
padded_hashes n hs rows len e =
    let q : length (hashes_words hs) ≡ 4 * n = omega (arith, length_hashes hs) in
    sym (hashes_rows 8 rows) ∙ ap hashes_in e ∙ hashes_back hs (replicate (32 - length (hashes_words hs)) 0)
    ∙ ap (λ (k : ℕ). hs ++ hashes_in (replicate (32 - k) 0)) q

-- eight rows are the same when the n hashes are
pub rows_same : (n : ℕ) (hs gs : List Hash) (a b : List (List ℕ)) → length hs ≡ n → length gs ≡ n → rows_words 8 a ≡ planned_words hs → rows_words 8 b ≡ planned_words gs
    → same_hashes (rows_hashes 8 a) (rows_hashes 8 b) ≡ same_hashes hs gs
rows_same n hs gs a b m k e f =
    (λ i. same_hashes (padded_hashes n hs a m e i) (padded_hashes n gs b k f i)) ∙ same_append hs gs (hashes_in (replicate (32 - 4 * n) 0)) (m ∙ sym k)

-- the rows from i on
module _ (a b : List (List ℕ)) where
  abbrev pub same_from : ℕ → Bool
  same_from i = same_hashes (hashes_from i (8 - i) a) (hashes_from i (8 - i) b)

  pub same_start : same_hashes (rows_hashes 8 a) (rows_hashes 8 b) ≡ same_from 0
  unfolding rows_hashes
  same_start = refl

  pub same_step : (i : ℕ) → i < 8 → same_from i ≡ same (row_hash (get_or a i [])) (row_hash (get_or b i [])) && same_from (i + 1)
  unfolding same_hashes
  same_step i h =
      let e : 8 - i ≡ suc (8 - suc i) = omega arith in
      let z : suc i ≡ i + 1 = omega arith in
      ap (λ (k : ℕ). same_hashes (hashes_from i k a) (hashes_from i k b)) e ∙ ap (λ (j : ℕ). same (row_hash (get_or a i [])) (row_hash (get_or b i [])) && same_from j) z

  pub same_end : (i : ℕ) → 8 ≤ i → same_from i ≡ true
  unfolding same_hashes
  same_end i h =
      let e : 8 - i ≡ 0 = omega arith in
      ap (λ (k : ℕ). same_hashes (hashes_from i k a) (hashes_from i k b)) e

-- ---- the seats that enter

pub seat_at : (l : List ℕ) (i : ℕ) → all seat_ok l ≡ true → i < length l → get_or l i 0 ≤ max_seat
unfolding all
seat_at [] i a h = absurd (not-suc-le-zero h)
seat_at (s ∷ l) zero a h = leb-true s max_seat (and_left (leb s max_seat) (all seat_ok l) a)
seat_at (s ∷ l) (suc i) a h = seat_at l i (and_right (leb s max_seat) (all seat_ok l) a) (le_of_suc-le-suc h)

-- the window once the seats are in
abbrev pub enters : List ℕ → Window → Window
enters ss w = with_probe w.races.probe w.races.planned (entered ss w.races.racers) w

pub enters_step : (l : List ℕ) (i : ℕ) (v w : Window) → i < length l
    → v ≡ with_probe w.races.probe w.races.planned (set w.races.racers (get_or l i 0) 1) w → enters (drop (i + 1) l) v ≡ enters (drop i l) w
unfolding entered
enters_step l i v w h e =
    let z : i + 1 ≡ suc i = omega arith in
    (λ j. enters (drop (z j) l) (e j)) ∙ ap (λ (ss : List ℕ). enters ss w) (sym (drop-cons l i 0 h))

pub enters_end : (l : List ℕ) (i : ℕ) (w : Window) → length l ≤ i → enters (drop i l) w ≡ w
unfolding entered
enters_end l i w h = ap (λ (ss : List ℕ). enters ss w) (none_left l i h)
  where
    none_left : (l : List ℕ) (i : ℕ) → length l ≤ i → drop i l ≡ []
    none_left [] zero h = refl
    none_left [] (suc i) h = refl
    none_left (x ∷ l) zero h = absurd (not-suc-le-zero h)
    none_left (x ∷ l) (suc i) h = none_left l i (le_of_suc-le-suc h)

-- ---- the confirmation, case by case

some_there : (l : List ℕ) → (length l ≡ 0 → ⊥) → is_empty l ≡ false
some_there [] n = absurd (n refl)
some_there (x ∷ l) n = refl

module _ (owner : ℕ) (given : List ℕ) (clock : ℕ) (w : Window) where
  pub confirm_none : (alternates : List ℕ) → length alternates ≡ 0 → w ≡ confirm_prefix_probe owner given alternates clock w
  unfolding confirm_prefix_probe
  confirm_none [] e = refl
  confirm_none (x ∷ l) e = absurd (omega arith)

  module _ (alternates : List ℕ) (some : length alternates ≡ 0 → ⊥) (r : Planning) (p : Plans r w) where
    pub confirm_small : r.n < 4 → w ≡ confirm_prefix_probe owner given alternates clock w
    unfolding confirm_prefix_probe planned_by
    confirm_small h = rw (some_there alternates some, ← p.is, lt-leb win_blocks r.n h)

    module _ (h : 4 ≤ r.n) where
      -- the plan
      full : prefix_probe_plan w ≡ planned r.owner (hashes_of (prefix_probe_plan w)) (r.end - 1)
      unfolding planned_by
      full = rw (← p.is, le-leb win_blocks r.n h)

      pub confirm_other : (r.owner ≡ owner → ⊥) → w ≡ confirm_prefix_probe owner given alternates clock w
      unfolding confirm_prefix_probe
      confirm_other o = rw (some_there alternates some, full, ne_eqb r.owner owner o)

      module _ (o : r.owner ≡ owner) (rows : List (List ℕ)) (e : rows_words 8 rows ≡ planned_words (hashes_of (prefix_probe_plan w))) where
        abbrev hs : List Hash
        hs = hashes_of (prefix_probe_plan w)

        len : length hs ≡ r.n
        len = plan_length r w p r.n (sym (ap (λ (b : Bool). cond b r.n 0) (le-leb win_blocks r.n h)))

        pub confirm_rows : Rows r.n rows
        confirm_rows = rows_of r.n hs rows len p.few e

        first : hs ≡ rows_hashes r.n rows
        first = sym (rows_first r.n hs rows len p.few e)

        by : confirm_prefix_probe owner given alternates clock w ≡ cond (eqb (length given) (4 * r.n) && same_hashes (rows_hashes r.n rows) (hashes_in given)) (probe_started owner (rows_hashes r.n rows) alternates clock w) w
        unfolding confirm_prefix_probe
        by =
            rw (some_there alternates some)
            (ap (λ (q : Planned). confirm_by q owner given alternates clock w) full
            ∙ ap (λ (b : Bool). cond (b && (eqb (length given) (4 * length hs) && same_hashes hs (hashes_in given))) (probe_started owner hs alternates clock w) w) (eq-eqb r.owner owner o)
            ∙ (λ i. cond (eqb (length given) (4 * len i) && same_hashes (first i) (hashes_in given)) (probe_started owner (first i) alternates clock w) w))

        pub confirm_not : eqb (length given) (4 * r.n) && same_hashes (rows_hashes r.n rows) (hashes_in given) ≡ false → w ≡ confirm_prefix_probe owner given alternates clock w
        confirm_not q = sym (by ∙ ap (λ (b : Bool). cond b (probe_started owner (rows_hashes r.n rows) alternates clock w) w) q)

        pub confirm_is : eqb (length given) (4 * r.n) && same_hashes (rows_hashes r.n rows) (hashes_in given) ≡ true
            → probe_started owner (rows_hashes r.n rows) alternates clock w ≡ confirm_prefix_probe owner given alternates clock w
        confirm_is q = sym (by ∙ ap (λ (b : Bool). cond b (probe_started owner (rows_hashes r.n rows) alternates clock w) w) q)

-- The pending entries of the window that words say, as a scan over the words meets them. Assumes nothing.
use Rattle.std.specs.Prelude.{◌≡◌, refl, List, [], ◌∷◌, ◌++◌, map, ℕ, zero, suc, ◌+◌, ◌*◌, ◌≤◌, ◌<◌, length, get_or, take, drop, set}
use Rattle.std.proofs.Common.{sym, ap, ◌∙◌, le_of_suc-le-suc, not-suc-le-zero, arith, drop-cons, take-suc, take-suc-set}
use Rattle.std.proofs.Math.ListN.{length-take}
use Rattle.model.specs.Numbers.{max_clock, max_seat, max_estimate}
use Rattle.model.specs.Window.{Window}
use Rattle.model.specs.Layout.{blank, entry_at, rows, decode, field, word, live, read, window_of}
use Rattle.model.specs.declared.Entry.{Entry}
use Rattle.laws.specs.Rows.{length_rows, rows_at, word_at}
use Rattle.laws.specs.Tables.{seat_word}
use Rattle.laws.specs.Entries.{Each, each_map}
use Rattle.laws.specs.Sound.{InRange, Sound}

-- ---- any list of entries

module _ (P : Entry → Type 0) where
  pub each_at : (l : List Entry) (i : ℕ) (d : Entry) → Each P l → i < length l → P (get_or l i d)
  each_at [] i d a h = absurd (not-suc-le-zero h)
  each_at (e ∷ l) zero d a h = a.0
  each_at (e ∷ l) (suc i) d a h = each_at l i d a.1 (le_of_suc-le-suc h)

get_or_within : (m : ℕ) (l : List Entry) (i : ℕ) (d : Entry) → i < length (take m l) → get_or (take m l) i d ≡ get_or l i d
get_or_within zero l i d h = absurd (not-suc-le-zero h)
get_or_within (suc m) [] i d h = absurd (not-suc-le-zero h)
get_or_within (suc m) (e ∷ l) zero d h = refl
get_or_within (suc m) (e ∷ l) (suc i) d h = get_or_within m l i d (le_of_suc-le-suc h)

map_snoc : (f : Entry → ℕ) (l : List Entry) (e : Entry) → map f (l ++ (e ∷ [])) ≡ map f l ++ (f e ∷ [])
map_snoc f [] e = refl
map_snoc f (x ∷ l) e = ap (λ (r : List ℕ). f x ∷ r) (map_snoc f l e)

-- one more mark
pub marks_step : (f : Entry → ℕ) (l : List Entry) (ms : List ℕ) (i v : ℕ) (d : Entry) → i < length l → i < length ms → take i ms ≡ map f (take i l) → v ≡ f (get_or l i d)
    → take (suc i) (set ms i v) ≡ map f (take (suc i) l)
marks_step f l ms i v d h k e q =
    take-suc-set ms i v k ∙ (λ j. e j ++ (q j ∷ [])) ∙ sym (ap (map f) (take-suc l i d h) ∙ map_snoc f (take i l) (get_or l i d))

-- ---- entries in their ranges, whatever the clock

abbrev pub Ranged : Window → Type 0
Ranged w = Each (InRange max_clock) w.queue.pending

pub sound_ranged : (c : ℕ) (w : Window) → Sound c w → Ranged w
sound_ranged c w g =
    each_map (λ e k. record { owner = k.owner; time = omega (arith, k.time, g.clock); height = k.height; least = k.least; most = k.most }) w.queue.pending g.queue.each

-- ---- the window of words

module _ (ws : List ℕ) where
  abbrev pending : List Entry
  pending = (window_of ws).queue.pending

  pub pending_few : length pending ≤ 256
  unfolding window_of read live decode
  pending_few = rw length-take (omega (arith, length_rows 256 ws))

  module _ (i : ℕ) (h : i < length pending) where
    pub pending_at : get_or pending i blank ≡ entry_at (drop i ws)
    unfolding window_of read live decode
    pending_at = get_or_within (word 1 (decode ws)) (rows 256 ws) i blank h ∙ rows_at 256 i ws (omega (arith, pending_few))

    -- the rest of a scan
    pub pending_cons : drop i pending ≡ get_or pending i blank ∷ drop (suc i) pending
    pending_cons = drop-cons pending i blank h

    pub pending_field : (k : ℕ) → k < 8 → field k (get_or pending i blank) ≡ get_or ws (i + 256 * k) 0
    pending_field k b = ap (field k) pending_at ∙ word_at i ws k b

    pub owner_at : (get_or pending i blank).owner ≡ get_or ws (i + 1024) 0
    owner_at = pending_field 4 (omega arith)

    pub time_at : (get_or pending i blank).time ≡ get_or ws (i + 1280) 0
    time_at = pending_field 5 (omega arith)

    pub height_at : (get_or pending i blank).height ≡ get_or ws (i + 1536) 0
    height_at = pending_field 6 (omega arith)

    pub estimate_at : (get_or pending i blank).estimate ≡ get_or ws (i + 1792) 0
    estimate_at = pending_field 7 (omega arith)

    -- what such entries say of the words there
    pub seat_at : Ranged (window_of ws) → get_or ws (i + 1024) 0 ≤ max_seat
    seat_at a = rw owner_at at (each_at (InRange max_clock) pending i blank a h).owner

    pub time_le : Ranged (window_of ws) → get_or ws (i + 1280) 0 ≤ max_clock
    time_le a = rw time_at at (each_at (InRange max_clock) pending i blank a h).time

    pub estimate_le : Ranged (window_of ws) → get_or ws (i + 1792) 0 ≤ max_estimate
    estimate_le a = rw estimate_at at (each_at (InRange max_clock) pending i blank a h).most

  -- a seat's words
  pub start_word : (s : ℕ) → s < 256 → get_or (window_of ws).queue.starts s 0 ≡ get_or ws (2304 + s) 0
  unfolding window_of read decode
  start_word s h = seat_word 2304 s ws h

  pub body_word : (s : ℕ) → s < 256 → get_or (window_of ws).queue.bodies s 0 ≡ get_or ws (2560 + s) 0
  unfolding window_of read decode
  body_word s h = seat_word 2560 s ws h

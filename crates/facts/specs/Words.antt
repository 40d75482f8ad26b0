-- When 4,096 words are a window, said of the words themselves, as fast code reads them: the same conditions as the model's `valid`, which are said of
-- lists. `Whole` shows the two equal. Definitions only.
use Rattle.std.specs.Prelude.{ℕ, zero, suc, ◌+◌, ◌*◌, ◌-◌, Bool, ◌&&◌, ◌||◌, cond, List, [], ◌∷◌, length, get_or, take, drop, eqb, ltb, leb}
use Rattle.model.specs.Numbers.{max_height, min_estimate, max_estimate, max_seat}
use Rattle.model.specs.Lists.{all}
use Rattle.model.specs.Hash.{hash, less}
use Rattle.model.specs.Layout.{Table, is_0, decode, cold_ok, hedged_ok, observation_ok, settings_ok, settings_of, counts_ok, small_ok, stall_ok, stuck_ok, time_ok, word, words_at}
use Rattle.model.specs.Layout as layout
use Rattle.model.specs.declared.Entry.{Entry}
use Rattle.facts.specs.Flags.{fold, all_below}

-- the n words from a on are 0
unfoldable pub zeros : List ℕ → ℕ → ℕ → Bool
zeros ws a n = all is_0 (take n (drop a ws))

-- the head's word k
abbrev pub at : List ℕ → ℕ → ℕ
at ws k = get_or ws (3584 + k) 0

abbrev pub count : List ℕ → ℕ
count ws = at ws 1

abbrev pub clock : List ℕ → ℕ
clock ws = at ws 2

-- the greatest stored time
abbrev pub latest : List ℕ → ℕ
latest ws = clock ws + 1

abbrev pub total : List ℕ → ℕ
total ws = at ws 3

-- ---- record i

abbrev pub owner : List ℕ → ℕ → ℕ
owner ws i = get_or ws (1024 + i) 0

abbrev pub time : List ℕ → ℕ → ℕ
time ws i = get_or ws (1280 + i) 0

abbrev pub height : List ℕ → ℕ → ℕ
height ws i = get_or ws (1536 + i) 0

abbrev pub estimate : List ℕ → ℕ → ℕ
estimate ws i = get_or ws (1792 + i) 0

unfoldable pub entry : List ℕ → ℕ → Entry
entry ws i = record {
  hash = hash (get_or ws i 0) (get_or ws (256 + i) 0) (get_or ws (512 + i) 0) (get_or ws (768 + i) 0);
  owner = owner ws i;
  time = time ws i;
  height = height ws i;
  estimate = estimate ws i;
}

-- its ranges
unfoldable pub fields : List ℕ → ℕ → List Bool
fields ws i =
    leb (owner ws i) max_seat ∷ leb (time ws i) (clock ws) ∷ leb (height ws i) max_height ∷ leb min_estimate (estimate ws i)
    ∷ leb (estimate ws i) max_estimate ∷ []

unfoldable pub fields_fit : List ℕ → ℕ → Bool
fields_fit ws i = fold (fields ws i)

-- its hash is above the one before
unfoldable pub rises : List ℕ → ℕ → Bool
rises ws i = eqb i 0 || less (entry ws (i - 1)).hash (entry ws i).hash

unfoldable pub record_fits : List ℕ → ℕ → Bool
record_fits ws i = fields_fit ws i && rises ws i

unfoldable pub records_fit : List ℕ → Bool
records_fit ws = all_below (count ws) (record_fits ws)

-- the estimates of the first n records
unfoldable pub sum_of : List ℕ → ℕ → ℕ
sum_of ws zero = 0
sum_of ws (suc n) = sum_of ws n + estimate ws n

unfoldable pub total_fits : List ℕ → Bool
total_fits ws = eqb (sum_of ws (count ws)) (total ws)

-- ---- seat s

abbrev pub start : List ℕ → ℕ → ℕ
start ws s = get_or ws (2304 + s) 0

abbrev pub body : List ℕ → ℕ → ℕ
body ws s = get_or ws (2560 + s) 0

abbrev pub seat_key : List ℕ → ℕ → ℕ
seat_key ws s = get_or ws (2816 + s) 0

abbrev pub cooling : List ℕ → ℕ → ℕ
cooling ws s = get_or ws (3072 + s) 0

abbrev pub racer : List ℕ → ℕ → ℕ
racer ws s = get_or ws (3328 + s) 0

-- the earlier of the time t and the stored time m
unfoldable pub earlier : ℕ → ℕ → ℕ
earlier t m = cond (eqb m 0 || ltb (t + 1) m) (t + 1) m

-- the time of the oldest of the first n records that the seat s owns, as a time is stored: t + 1, or 0 where it owns none
unfoldable pub oldest_of : List ℕ → ℕ → ℕ → ℕ
oldest_of ws s zero = 0
oldest_of ws s (suc n) = cond (eqb (owner ws n) s) (earlier (time ws n) (oldest_of ws s n)) (oldest_of ws s n)

-- a start, of a seat whose oldest record is from `old`, is at most `late`; it is 0 where the seat owns no record, and else no earlier than `old`
unfoldable pub start_by : ℕ → ℕ → ℕ → Bool
start_by late old a = leb a late && cond (eqb old 0) (eqb a 0) (leb old a)

-- the greatest racer word: 0 where there is no probe
unfoldable pub most_raced : ℕ → ℕ
most_raced probe = cond (eqb probe 0) 0 256

unfoldable pub seat_by : ℕ → ℕ → ℕ → ℕ → ℕ → ℕ → ℕ → ℕ → Bool
seat_by late most old a l k c r = start_by late old a && leb l late && leb k max_seat && leb c late && leb r most

unfoldable pub seat_fits : List ℕ → ℕ → Bool
seat_fits ws s =
    seat_by (latest ws) (most_raced (at ws 61)) (oldest_of ws s (count ws)) (start ws s) (body ws s) (seat_key ws s) (cooling ws s) (racer ws s)

unfoldable pub seats_fit : List ℕ → Bool
seats_fit ws = all_below 256 (seat_fits ws)

-- ---- what is not used is 0

-- the place i is 0 in each of the eight columns
unfoldable pub blanks : List ℕ → ℕ → List Bool
blanks ws i =
    eqb (get_or ws i 0) 0 ∷ eqb (get_or ws (256 + i) 0) 0 ∷ eqb (get_or ws (512 + i) 0) 0 ∷ eqb (get_or ws (768 + i) 0) 0
    ∷ eqb (owner ws i) 0 ∷ eqb (time ws i) 0 ∷ eqb (height ws i) 0 ∷ eqb (estimate ws i) 0 ∷ []

unfoldable pub blank_at : List ℕ → ℕ → Bool
blank_at ws i = fold (blanks ws i)

-- the places after the records
unfoldable pub tails_zero : List ℕ → Bool
tails_zero ws = all_below (256 - count ws) (λ k. blank_at ws (count ws + k))

unfoldable pub unused_zero : List ℕ → Bool
unused_zero ws = tails_zero ws && zeros ws 2048 256

-- ---- the head, but for the racers of its probe, which `seat_fits` has

-- a group of six words from a on, by the stored time in its first; its second is at most m
unfoldable pub since_fits : List ℕ → ℕ → ℕ → Bool
since_fits ws a m = cond (eqb (get_or ws a 0) 0) (zeros ws a 6) (fold (leb (get_or ws a 0) (latest ws) ∷ leb (get_or ws (a + 1) 0) m ∷ []))

unfoldable pub probe_fits : Table → Bool
probe_fits t =
    cond (is_0 (word 61 t)) (layout.zeros 61 36 t)
    (fold (time_ok (word 61 t) t ∷ leb (word 62 t) max_seat ∷ leb (word 63 t) 8 ∷ leb (word 64 t) 255
    ∷ all is_0 (drop (4 * word 63 t) (words_at 65 32 t)) ∷ []))

-- all but the first eight words
unfoldable pub later : List ℕ → List Bool
later ws =
    settings_ok (settings_of (decode ws)) ∷ small_ok (decode ws) ∷ stall_ok (decode ws) ∷ stuck_ok (decode ws) ∷ cold_ok (decode ws)
    ∷ hedged_ok (decode ws) ∷ observation_ok (decode ws) ∷ probe_fits (decode ws) ∷ zeros ws 3681 415 ∷ []

unfoldable pub later_fits : List ℕ → Bool
later_fits ws = fold (later ws)

unfoldable pub head_fits : List ℕ → Bool
head_fits ws = counts_ok (decode ws) && later_fits ws

-- ---- all of it

unfoldable pub conditions : List ℕ → List Bool
conditions ws = eqb (length ws) 4096 ∷ head_fits ws ∷ unused_zero ws ∷ records_fit ws ∷ total_fits ws ∷ seats_fit ws ∷ []

unfoldable pub fits : List ℕ → Bool
fits ws = fold (conditions ws)

-- WORDS AND WINDOWS. Words that count as a window are the words of the window that is read from them, and that window is sound; the words of a sound
-- window count as one and read back. Assumes nothing.
use Rattle.std.specs.Prelude.{◌≡◌, Bool, false, ℕ, zero, suc, ◌+◌, ◌-◌, ◌*◌, ◌≤◌, get_or, leb, None, Some, Option}
use Rattle.std.proofs.Math.Path.{refl, sym, ap}
use Rattle.std.proofs.Common.{◌∙◌, length-append, take_at, drop_at, take_all, eqb-true, eq-eqb, leb-true, le-leb}
use Rattle.std.proofs.Math.Bool.{true}
use mathlib.Core.List.{List, [], ◌∷◌, ◌++◌}
use native.Mathlib.Omega.{arith}
use Rattle.std.proofs.Math.ListN.{length, take, drop, replicate, length-drop, take-append-drop}
use Rattle.std.proofs.lemmas.List.{length-replicate}
use Rattle.std.proofs.Math.Seq.{length-take-le}
use Rattle.model.specs.Numbers.{max_clock, max_height, min_estimate, max_estimate, max_duration, max_seat, max_front_mean, max_pending}
use Rattle.model.specs.Lists.{pad, all, every}
use Rattle.model.specs.Hash.{hashes_in, hashes_words}
use Rattle.model.specs.Records.{sum}
use Rattle.model.specs.Window.{Window}
use Rattle.model.specs.Layout.{Table, blank, decode, flat, table, read, word, words_at, hash_at, live, settings_words, settings_of, counts_words, small_words, head_words, flag_word, source_word, source_of, stall_words, stall_of, stuck_words, stuck_of, cold_words, cold_of, hedged_words, observation_words, observation_of, probe_words, probe_of, planned_words, format, is_0, settings_ok, counts_ok, small_ok, zeros, hedged_ok, head_ok, is_blank, entry_ok, rising, starts_ok, tables_ok, records_ok, valid, encode, window_of, is_window}
use Rattle.model.specs.declared.Hash.{Hash}
use Rattle.model.specs.declared.Entry.{Entry}
use Rattle.model.specs.declared.StallEpisode.{StallEpisode}
use Rattle.model.specs.declared.StuckFrontier.{StuckFrontier}
use Rattle.model.specs.declared.ColdFront.{ColdFront}
use Rattle.model.specs.declared.ColdFront.TheVariants.{Idle, Waiting, Racing}
use Rattle.model.specs.declared.PrefixProbe.{PrefixProbe}
use Rattle.model.specs.declared.Observation.{Observation}
use Rattle.model.specs.declared.Observation.TheVariants.{Unarmed, Armed, Swept}
use Rattle.laws.specs.Every.{hold, and_so}
use Rattle.laws.specs.Tables.{Sized, sized_decode, flat_decode, length_flat, decode_flat}
use Rattle.laws.specs.Sound.{SoundSource, SoundProbe, Sound}
use Rattle.laws.specs.Heads.{seg, front_is, listed, listed_is, cut, nought, all_zeros, hashes_said, length_padded, count_said, padded_back, padded_zero, word_is, source_back, source_said, flag_back, flag_said, stall_back, stuck_back, cold_back, observation_back, probe_back, stall_said, stuck_said, cold_said, observation_said, probe_said}
use Rattle.laws.specs.Valid.{bounded_all, all_bounded, each_all, all_each, rising_is, is_rising, blanks_are, all_blanks, starts_all, starts_each, stall_valid, stuck_valid, cold_valid, observation_valid, probe_valid, StallFacts, stall_facts, StuckFacts, stuck_facts, ColdFacts, cold_facts, ObservationFacts, observation_facts, ProbeFacts, probe_facts}

-- ---- the groups of a window's head

pub record Groups (w : Window) : Type 0 where
  pub stall : words_at 27 6 (table w) ≡ stall_words w.watch.stall
  pub stuck : words_at 33 6 (table w) ≡ stuck_words w.watch.stuck
  pub cold : words_at 39 7 (table w) ≡ cold_words w.races.cold
  pub hedges : word 46 (table w) ≡ length w.races.hedged
  pub hedged : words_at 47 8 (table w) ≡ pad 8 0 (hashes_words w.races.hedged)
  pub observation : words_at 55 6 (table w) ≡ observation_words w.watch.observation
  pub probe : words_at 61 4 (table w) ≡ probe_words w.races.probe (length w.races.planned)
  pub planned : words_at 65 32 (table w) ≡ planned_words w.races.planned
  pub rest : words_at 97 415 (table w) ≡ replicate 415 0
  pub long : length (table w).head ≡ 512

six_stall : (s : Option StallEpisode) → length (stall_words s) ≡ 6
six_stall None = refl
six_stall (Some s) = refl

six_stuck : (s : Option StuckFrontier) → length (stuck_words s) ≡ 6
six_stuck None = refl
six_stuck (Some s) = refl

seven_cold : (s : ColdFront) → length (cold_words s) ≡ 7
seven_cold Idle = refl
seven_cold (Waiting owner h since) = refl
seven_cold (Racing owner alternate h) = refl

six_observation : (s : Observation) → length (observation_words s) ≡ 6
six_observation Unarmed = refl
six_observation (Armed owner h) = refl
six_observation (Swept owner h) = refl

four_probe : (p : Option PrefixProbe) (n : ℕ) → length (probe_words p n) ≡ 4
four_probe None n = refl
four_probe (Some p) n = refl

planned_few : (c : ℕ) (p : Option PrefixProbe) (hs : List Hash) (rs : List ℕ) → SoundProbe c p hs rs → length hs ≤ 8
planned_few c None hs rs h = omega (arith, ap length h.0)
planned_few c (Some p) hs rs h = h.3

groups : {c : ℕ} (w : Window) → Sound c w → Groups w
unfolding table head_words counts_words settings_words small_words hedged_words planned_words words_at word
groups {c} w g =
    let H = head_words w in
    let few : 4 * length w.races.planned ≤ 32 = omega (arith, planned_few c w.races.probe w.races.planned w.races.racers g.races.probe) in
    let a = seg 27 33 6 H (stall_words w.watch.stall) _ refl (six_stall w.watch.stall) refl in
    let b = seg 33 39 6 H (stuck_words w.watch.stuck) _ refl (six_stuck w.watch.stuck) a.1 in
    let d = seg 39 46 7 H (cold_words w.races.cold) _ refl (seven_cold w.races.cold) b.1 in
    let e = seg 46 47 1 H (length w.races.hedged ∷ []) _ refl refl d.1 in
    let f = seg 47 55 8 H (pad 8 0 (hashes_words w.races.hedged)) _ refl (length_padded 8 w.races.hedged (omega (arith, g.races.hedged))) e.1 in
    let h = seg 55 61 6 H (observation_words w.watch.observation) _ refl (six_observation w.watch.observation) f.1 in
    let j = seg 61 65 4 H (probe_words w.races.probe (length w.races.planned)) _ refl (four_probe w.races.probe (length w.races.planned)) h.1 in
    let k = seg 65 97 32 H (pad 32 0 (hashes_words w.races.planned)) _ refl (length_padded 32 w.races.planned few) j.1 in
    let z : drop 97 H ≡ replicate 415 0 = k.1 in
    record {
      stall = a.0;
      stuck = b.0;
      cold = d.0;
      hedges = word_is (table w) 46 1 (length w.races.hedged ∷ []) e.0 0 (omega arith);
      hedged = f.0;
      observation = h.0;
      probe = j.0;
      planned = k.0;
      rest = ap (take 415) z ∙ take_all 415 (replicate 415 0) (omega (arith, length-replicate {A = ℕ} 415 0));
      long = omega (arith, length-drop 97 H, ap length z, length-replicate {A = ℕ} 415 0);
    }

-- ---- a window, from its table

live_table : (w : Window) → live (table w) ≡ w.queue.pending
unfolding live table pad word head_words counts_words
live_table w = take_at w.queue.pending (replicate (256 - length w.queue.pending) blank) (length w.queue.pending) refl

hashes_said_32 : (hs : List Hash) → take (length hs) (hashes_in (planned_words hs)) ≡ hs
unfolding planned_words
hashes_said_32 hs = hashes_said 32 hs

pub read_table : {c : ℕ} (w : Window) → Sound c w → read (table w) ≡ w
unfolding read table settings_of word head_words counts_words settings_words small_words
read_table {c} w g =
    let s = groups w g in
    let t = table w in
    λ i. record {
      settings = w.settings;
      keys = w.keys;
      clock = w.clock;
      mean = w.mean;
      frontier = w.frontier;
      high = w.high;
      queue = record { total = w.queue.total; pending = live_table w i; starts = w.queue.starts; bodies = w.queue.bodies };
      cooling = w.cooling;
      fanout = record { eligible = w.fanout.eligible; engaged = flag_back w.fanout.engaged i };
      pace = w.pace;
      races = record {
        cold = cold_back t w.races.cold s.cold i;
        hedged = ((λ j. take (s.hedges j) (hashes_in (s.hedged j))) ∙ hashes_said 8 w.races.hedged) i;
        preferred = source_back w.races.preferred i;
        probe = probe_back t w.races.probe (length w.races.planned) s.probe i;
        planned = ((λ j. take (count j) (hashes_in (s.planned j))) ∙ said) i;
        racers = w.races.racers;
        attempted = source_back w.races.attempted i;
      };
      watch = record {
        stall = stall_back t w.watch.stall s.stall i;
        stuck = stuck_back t w.watch.stuck s.stuck i;
        observation = observation_back t w.watch.observation s.observation i;
      };
    }
  where
    planned_count : (p : Option PrefixProbe) (n : ℕ) → get_or (probe_words p n) 2 0 ≡ n
    planned_count None n = refl
    planned_count (Some p) n = refl

    count : word 63 (table w) ≡ length w.races.planned
    count = word_is (table w) 61 4 _ (groups w g).probe 2 (omega arith) ∙ planned_count w.races.probe (length w.races.planned)

    said : take (length w.races.planned) (hashes_in (planned_words w.races.planned)) ≡ w.races.planned
    said = hashes_said_32 w.races.planned

source_le : (s : Option ℕ) → SoundSource s → source_word s ≤ suc max_seat
source_le None h = omega arith
source_le (Some s) h = omega arith

flag_le : (b : Bool) → flag_word b ≤ 1
flag_le true = omega arith
flag_le false = omega arith

counts_valid : (w : Window) → Sound w.clock w → counts_ok (table w) ≡ true
unfolding counts_ok every table word head_words counts_words
counts_valid w g =
    and_so (eq-eqb format format refl) (and_so (le-leb (length w.queue.pending) max_pending g.queue.few) (and_so (le-leb w.clock max_clock g.clock)
    (and_so (le-leb (length w.queue.pending) w.high.blocks g.high.blocks) (and_so (le-leb w.queue.total w.high.bytes g.high.bytes)
    (and_so (le-leb min_estimate w.mean g.mean_least) (and_so (le-leb w.mean max_estimate g.mean_most) (and_so (le-leb w.frontier max_height g.frontier) refl)))))))

small_valid : (w : Window) → Sound w.clock w → small_ok (table w) ≡ true
unfolding small_ok every table word head_words counts_words settings_words small_words
small_valid w g =
    and_so (le-leb (flag_word w.fanout.engaged) 1 (flag_le w.fanout.engaged)) (and_so (le-leb w.pace.mean (suc max_front_mean) g.pace.mean)
    (and_so (le-leb w.pace.advance (suc w.clock) g.pace.advance) (and_so (le-leb w.pace.wait max_duration g.pace.wait)
    (and_so (le-leb (source_word w.races.preferred) (suc max_seat) (source_le w.races.preferred g.races.preferred))
    (and_so (le-leb (source_word w.races.attempted) (suc max_seat) (source_le w.races.attempted g.races.attempted)) refl)))))

settings_valid : (w : Window) → Sound w.clock w → settings_ok (settings_of (table w)) ≡ true
unfolding settings_of table word head_words counts_words settings_words
settings_valid w g = g.settings

hedged_valid : (w : Window) → Sound w.clock w → hedged_ok (table w) ≡ true
unfolding hedged_ok every
hedged_valid w g =
    let s = groups w g in
    rw (s.hedges, s.hedged) (and_so (le-leb (length w.races.hedged) 2 g.races.hedged) (and_so (padded_zero 8 w.races.hedged) refl))

clock_at : (w : Window) → word 2 (table w) ≡ w.clock
unfolding table word head_words counts_words
clock_at w = refl

racers_at : (w : Window) → (table w).racers ≡ w.races.racers
unfolding table
racers_at w = refl

head_valid : (w : Window) → Sound w.clock w → head_ok (table w) ≡ true
unfolding head_ok every zeros
head_valid w g =
    let s = groups w g in
    let t = table w in
    let c = clock_at w in
    and_so (counts_valid w g) (and_so (settings_valid w g) (and_so (small_valid w g)
    (and_so (stall_valid t w.clock c w.watch.stall s.stall g.watch.stall)
    (and_so (stuck_valid t w.clock c w.watch.stuck s.stuck g.watch.stuck)
    (and_so (cold_valid t w.clock c w.races.cold s.cold g.races.cold)
    (and_so (hedged_valid w g)
    (and_so (observation_valid t w.clock c w.watch.observation s.observation g.watch.observation)
    (and_so (probe_valid t w.clock c w.races.probe w.races.planned s.probe s.planned (rw (racers_at w) g.races.probe))
    (and_so (ap (all is_0) s.rest ∙ all_zeros 415) refl)))))))))

rest_table : (w : Window) → drop (word 1 (table w)) (table w).entries ≡ replicate (256 - length w.queue.pending) blank
unfolding table pad word head_words counts_words
rest_table w = drop_at w.queue.pending (replicate (256 - length w.queue.pending) blank) (length w.queue.pending) refl

total_at : (w : Window) → word 3 (table w) ≡ w.queue.total
unfolding table word head_words counts_words
total_at w = refl

records_valid : (w : Window) → Sound w.clock w → records_ok (table w) ≡ true
unfolding records_ok every
records_valid w g =
    rw (rest_table w, live_table w, clock_at w, total_at w)
    (and_so (all_blanks (256 - length w.queue.pending)) (and_so (each_all w.clock w.queue.pending g.queue.each)
    (and_so (rising_is 0 w.queue.pending g.queue.rising) (and_so (eq-eqb w.queue.total (sum w.queue.pending) g.queue.total) refl))))

tables_valid : (w : Window) → Sound w.clock w → tables_ok (table w) ≡ true
unfolding tables_ok every table
tables_valid w g =
    rw (live_table w) (simp (clock_at w) (parts w g))
  where
    parts : (w : Window) → Sound w.clock w → every (starts_ok w.clock w.queue.pending 0 w.queue.starts ∷ all (λ s. leb s (suc w.clock)) w.queue.bodies ∷ all (λ k. leb k max_seat) w.keys
        ∷ all (λ s. leb s (suc w.clock)) w.cooling ∷ all (λ r. leb r 256) w.races.racers ∷ []) ≡ true
    parts w g =
        and_so (starts_all w.clock w.queue.pending 0 w.queue.starts (λ k b. let e : 0 + k ≡ k = omega arith in rw e (g.queue.starts k (omega (arith, g.queue.seats)))))
        (and_so (bounded_all (suc w.clock) w.queue.bodies g.queue.bodies.most) (and_so (bounded_all max_seat w.keys g.keys.most)
        (and_so (bounded_all (suc w.clock) w.cooling g.cooling.most) (and_so (bounded_all 256 w.races.racers g.races.racers.most) refl))))

spare_zero : (w : Window) → all is_0 (table w).spare ≡ true
unfolding table
spare_zero w = all_zeros 256

pub valid_table : (w : Window) → Sound w.clock w → valid (table w) ≡ true
unfolding valid every
valid_table w g = and_so (head_valid w g) (and_so (spare_zero w) (and_so (records_valid w g) (and_so (tables_valid w g) refl)))

-- ---- a table that passes the test

pub record Facts (t : Table) : Type 0 where
  pub format_is : word 0 t ≡ format
  pub few : word 1 t ≤ max_pending
  pub clock : word 2 t ≤ max_clock
  pub blocks : word 1 t ≤ word 4 t
  pub bytes : word 3 t ≤ word 5 t
  pub mean_least : min_estimate ≤ word 6 t
  pub mean_most : word 6 t ≤ max_estimate
  pub frontier : word 7 t ≤ max_height
  pub settings : settings_ok (settings_of t) ≡ true
  pub engaged : word 21 t ≤ 1
  pub pace_mean : word 22 t ≤ suc max_front_mean
  pub advance : word 23 t ≤ suc (word 2 t)
  pub wait : word 24 t ≤ max_duration
  pub preferred : word 25 t ≤ suc max_seat
  pub attempted : word 26 t ≤ suc max_seat
  pub stall : StallFacts t
  pub stuck : StuckFacts t
  pub cold : ColdFacts t
  pub hedges : word 46 t ≤ 2
  pub hedged : all is_0 (drop (4 * word 46 t) (words_at 47 8 t)) ≡ true
  pub observation : ObservationFacts t
  pub probe : ProbeFacts t
  pub rest : zeros 97 415 t ≡ true
  pub spare : all is_0 t.spare ≡ true
  pub clear : all is_blank (drop (word 1 t) t.entries) ≡ true
  pub each : all (entry_ok (word 2 t)) (live t) ≡ true
  pub rises : rising (live t) ≡ true
  pub total : word 3 t ≡ sum (live t)
  pub starts : starts_ok (word 2 t) (live t) 0 t.starts ≡ true
  pub bodies : all (λ s. leb s (suc (word 2 t))) t.bodies ≡ true
  pub keys : all (λ k. leb k max_seat) t.keys ≡ true
  pub cooling : all (λ s. leb s (suc (word 2 t))) t.cooling ≡ true
  pub racers : all (λ r. leb r 256) t.racers ≡ true

pub facts : (t : Table) → Sized t → valid t ≡ true → Facts t
unfolding valid head_ok counts_ok small_ok hedged_ok records_ok tables_ok
facts t z e =
    let h = hold _ (hold _ e 0) in
    let a = hold _ (h 0) in
    let b = hold _ (h 2) in
    let d = hold _ (h 6) in
    let r = hold _ (hold _ e 2) in
    let s = hold _ (hold _ e 3) in
    record {
      format_is = eqb-true (word 0 t) format (a 0);
      few = leb-true (word 1 t) max_pending (a 1);
      clock = leb-true (word 2 t) max_clock (a 2);
      blocks = leb-true (word 1 t) (word 4 t) (a 3);
      bytes = leb-true (word 3 t) (word 5 t) (a 4);
      mean_least = leb-true min_estimate (word 6 t) (a 5);
      mean_most = leb-true (word 6 t) max_estimate (a 6);
      frontier = leb-true (word 7 t) max_height (a 7);
      settings = h 1;
      engaged = leb-true (word 21 t) 1 (b 0);
      pace_mean = leb-true (word 22 t) (suc max_front_mean) (b 1);
      advance = leb-true (word 23 t) (suc (word 2 t)) (b 2);
      wait = leb-true (word 24 t) max_duration (b 3);
      preferred = leb-true (word 25 t) (suc max_seat) (b 4);
      attempted = leb-true (word 26 t) (suc max_seat) (b 5);
      stall = stall_facts t (h 3);
      stuck = stuck_facts t (h 4);
      cold = cold_facts t (h 5);
      hedges = leb-true (word 46 t) 2 (d 0);
      hedged = d 1;
      observation = observation_facts t (h 7);
      probe = probe_facts t z.head (h 8);
      rest = h 9;
      spare = hold _ e 1;
      clear = r 0;
      each = r 1;
      rises = r 2;
      total = eqb-true (word 3 t) (sum (live t)) (r 3);
      starts = s 0;
      bodies = s 1;
      keys = s 2;
      cooling = s 3;
      racers = s 4;
    }

-- ---- the table of what is read from it

module _ (t : Table) (z : Sized t) where
  length_live : word 1 t ≤ max_pending → length (live t) ≡ word 1 t
  unfolding live
  length_live h = length-take-le (word 1 t) t.entries (omega (arith, z.entries))

  -- the n words from k on, written out
  written : (k n : ℕ) → k + n ≤ 512 → words_at k n t ≡ listed k n t.head
  unfolding words_at
  written k n h = listed_is k n t.head (omega (arith, z.head))

  length_words : (k n : ℕ) → k + n ≤ 512 → length (words_at k n t) ≡ n
  unfolding words_at
  length_words k n h = length-take-le n (drop k t.head) (rw length-drop (omega (arith, z.head)))

  -- a group, and what comes after it
  joined : (k n m : ℕ) (x y : List ℕ) → k + n ≡ m → x ≡ words_at k n t → y ≡ drop m t.head → x ++ y ≡ drop k t.head
  unfolding words_at
  joined k n m x y e p q = (λ i. p i ++ q i) ∙ sym (cut k n m t.head e)

  module _ (v : Facts t) where
    stall_group : stall_words (stall_of (word 27 t) (word 28 t) (hash_at 29 t)) ≡ words_at 27 6 t
    unfolding word hash_at zeros
    stall_group = let p = written 27 6 (omega arith) in stall_said _ _ _ _ _ _ (λ x. ap (all is_0) (sym p) ∙ v.stall.none x) ∙ sym p

    stuck_group : stuck_words (stuck_of (word 33 t) (word 34 t) (hash_at 35 t)) ≡ words_at 33 6 t
    unfolding word hash_at zeros
    stuck_group = let p = written 33 6 (omega arith) in stuck_said _ _ _ _ _ _ (λ x. ap (all is_0) (sym p) ∙ v.stuck.none x) ∙ sym p

    cold_group : cold_words (cold_of (word 39 t) (word 40 t) (word 41 t) (hash_at 42 t)) ≡ words_at 39 7 t
    unfolding word hash_at zeros
    cold_group = let p = written 39 7 (omega arith) in cold_said _ _ _ _ _ _ _ (λ x. ap (all is_0) (sym p) ∙ v.cold.none x) v.cold.waits v.cold.most ∙ sym p

    observation_group : observation_words (observation_of (word 55 t) (word 56 t) (hash_at 57 t)) ≡ words_at 55 6 t
    unfolding word hash_at zeros
    observation_group = let p = written 55 6 (omega arith) in observation_said _ _ _ _ _ _ (λ x. ap (all is_0) (sym p) ∙ v.observation.none x) v.observation.most ∙ sym p

    hedges_count : length (take (word 46 t) (hashes_in (words_at 47 8 t))) ≡ word 46 t
    hedges_count = count_said 8 (word 46 t) (words_at 47 8 t) (length_words 47 8 (omega arith)) (omega (arith, v.hedges))

    hedged_group : (y : List ℕ) → y ≡ drop 55 t.head → hedged_words (take (word 46 t) (hashes_in (words_at 47 8 t))) ++ y ≡ drop 46 t.head
    unfolding hedged_words word
    hedged_group y q =
        (λ i. hedges_count i ∷ joined 47 8 55 _ y refl (padded_back 8 (word 46 t) (words_at 47 8 t) (length_words 47 8 (omega arith)) (omega (arith, v.hedges)) v.hedged) q i)
        ∙ front_is 46 1 t.head (omega (arith, z.head))

    planned_count : length (take (word 63 t) (hashes_in (words_at 65 32 t))) ≡ word 63 t
    planned_count = count_said 32 (word 63 t) (words_at 65 32 t) (length_words 65 32 (omega arith)) (omega (arith, v.probe.most))

    probe_group : probe_words (probe_of (word 61 t) (word 62 t) (word 64 t)) (length (take (word 63 t) (hashes_in (words_at 65 32 t)))) ≡ words_at 61 4 t
    unfolding word
    probe_group =
        ap (probe_words (probe_of (word 61 t) (word 62 t) (word 64 t))) planned_count
        ∙ probe_said (word 61 t) (word 62 t) (word 63 t) (word 64 t) v.probe.none ∙ sym (written 61 4 (omega arith))

    planned_group : planned_words (take (word 63 t) (hashes_in (words_at 65 32 t))) ≡ words_at 65 32 t
    unfolding planned_words
    planned_group = padded_back 32 (word 63 t) (words_at 65 32 t) (length_words 65 32 (omega arith)) (omega (arith, v.probe.most)) v.probe.clear

    rest_group : replicate 415 0 ≡ drop 97 t.head
    unfolding zeros words_at
    rest_group =
        let n : length (drop 97 t.head) ≡ 415 = rw length-drop (omega (arith, z.head)) in
        let all_0 : all is_0 (drop 97 t.head) ≡ true = ap (all is_0) (sym (take_all 415 (drop 97 t.head) (omega (arith, n)))) ∙ v.rest in
        nought (drop 97 t.head) 415 n all_0

    -- the groups from 27 on
    tail_groups : stall_words (stall_of (word 27 t) (word 28 t) (hash_at 29 t)) ++ (stuck_words (stuck_of (word 33 t) (word 34 t) (hash_at 35 t))
        ++ (cold_words (cold_of (word 39 t) (word 40 t) (word 41 t) (hash_at 42 t)) ++ (hedged_words (take (word 46 t) (hashes_in (words_at 47 8 t)))
        ++ (observation_words (observation_of (word 55 t) (word 56 t) (hash_at 57 t))
        ++ (probe_words (probe_of (word 61 t) (word 62 t) (word 64 t)) (length (take (word 63 t) (hashes_in (words_at 65 32 t))))
        ++ (planned_words (take (word 63 t) (hashes_in (words_at 65 32 t))) ++ replicate 415 0)))))) ≡ drop 27 t.head
    tail_groups =
        joined 27 6 33 _ _ refl stall_group (joined 33 6 39 _ _ refl stuck_group (joined 39 7 46 _ _ refl cold_group (hedged_group _
        (joined 55 6 61 _ _ refl observation_group (joined 61 4 65 _ _ refl probe_group (joined 65 32 97 _ _ refl planned_group rest_group))))))

    front_words : word 0 t ∷ word 1 t ∷ word 2 t ∷ word 3 t ∷ word 4 t ∷ word 5 t ∷ word 6 t ∷ word 7 t
        ∷ word 8 t ∷ word 9 t ∷ word 10 t ∷ word 11 t ∷ word 12 t ∷ word 13 t ∷ word 14 t ∷ word 15 t ∷ word 16 t ∷ word 17 t ∷ word 18 t ∷ word 19 t
        ∷ word 20 t ∷ word 21 t ∷ word 22 t ∷ word 23 t ∷ word 24 t ∷ word 25 t ∷ word 26 t ∷ drop 27 t.head ≡ t.head
    unfolding word
    front_words = front_is 0 27 t.head (omega (arith, z.head))

    head_read : head_words (read t) ≡ t.head
    unfolding head_words counts_words settings_words small_words read settings_of
    head_read =
        let n = length_live v.few in
        let x = flag_said (word 21 t) v.engaged in
        let p = source_said (word 25 t) in
        let a = source_said (word 26 t) in
        (λ i. sym v.format_is i ∷ n i ∷ word 2 t ∷ word 3 t ∷ word 4 t ∷ word 5 t ∷ word 6 t ∷ word 7 t
        ∷ word 8 t ∷ word 9 t ∷ word 10 t ∷ word 11 t ∷ word 12 t ∷ word 13 t ∷ word 14 t ∷ word 15 t ∷ word 16 t ∷ word 17 t ∷ word 18 t ∷ word 19 t
        ∷ word 20 t ∷ x i ∷ word 22 t ∷ word 23 t ∷ word 24 t ∷ p i ∷ a i ∷ tail_groups i) ∙ front_words

    table_read : table (read t) ≡ t
    unfolding table read pad live
    table_read =
        let n = word 1 t in
        let es = t.entries in
        let many : length (take n es) ≡ n = length-take-le n es (omega (arith, z.entries, v.few)) in
        let rest : length (drop n es) ≡ 256 - length (take n es) = length-drop n es ∙ omega (arith, z.entries, many) in
        let after : replicate (256 - length (take n es)) blank ≡ drop n es = ap (λ (m : ℕ). replicate m blank) (sym rest) ∙ sym (blanks_are (drop n es) v.clear) in
        let whole : take n es ++ replicate (256 - length (take n es)) blank ≡ es = ap (λ (l : List Entry). take n es ++ l) after ∙ take-append-drop n es in
        let spare : replicate 256 0 ≡ t.spare = nought t.spare 256 z.spare v.spare in
        λ i. record { entries = whole i; spare = spare i; starts = t.starts; bodies = t.bodies; keys = t.keys; cooling = t.cooling; racers = t.racers; head = head_read i }

    source_in : (n : ℕ) → n ≤ suc max_seat → SoundSource (source_of n)
    source_in zero h = tt
    source_in (suc s) h = omega arith

    -- and what is read is sound
    sound_read : Sound (read t).clock (read t)
    unfolding read
    sound_read = record {
      clock = v.clock;
      settings = v.settings;
      keys = record { places = z.keys; most = all_bounded max_seat t.keys v.keys };
      mean_least = v.mean_least;
      mean_most = v.mean_most;
      frontier = v.frontier;
      high = record { blocks = omega (arith, length_live v.few, v.blocks); bytes = v.bytes };
      queue = record {
        rising = is_rising (live t) v.rises;
        few = omega (arith, length_live v.few, v.few);
        each = all_each (word 2 t) (live t) v.each;
        total = v.total;
        seats = z.starts;
        starts = λ s k. let e : 0 + s ≡ s = omega arith in rw e at (starts_each (word 2 t) (live t) 0 t.starts v.starts s (omega (arith, z.starts)));
        bodies = record { places = z.bodies; most = all_bounded (suc (word 2 t)) t.bodies v.bodies };
      };
      cooling = record { places = z.cooling; most = all_bounded (suc (word 2 t)) t.cooling v.cooling };
      pace = record { mean = v.pace_mean; advance = v.advance; wait = v.wait };
      races = record {
        cold = v.cold.sound;
        hedged = omega (arith, hedges_count, v.hedges);
        preferred = source_in (word 25 t) v.preferred;
        probe = v.probe.sound z.racers;
        racers = record { places = z.racers; most = all_bounded 256 t.racers v.racers };
        attempted = source_in (word 26 t) v.attempted;
      };
      watch = record { stall = v.stall.sound; stuck = v.stuck.sound; observation = v.observation.sound };
    }

-- ---- the laws on words

table_sized : (w : Window) → Sound w.clock w → Sized (table w)
unfolding table pad
table_sized w g = record {
  entries = length-append w.queue.pending (replicate (256 - length w.queue.pending) blank)
      ∙ omega (arith, length-replicate (256 - length w.queue.pending) blank, g.queue.few);
  spare = length-replicate {A = ℕ} 256 0;
  starts = g.queue.seats;
  bodies = g.queue.bodies.places;
  keys = g.keys.places;
  cooling = g.cooling.places;
  racers = g.races.racers.places;
  head = (groups w g).long;
}

-- a sound window's words: 4,096 of them, they count as a window, and read back
pub record Encodes (w : Window) : Type 0 where
  pub long : length (encode w) ≡ 4096
  pub counts : is_window (encode w) ≡ true
  pub back : window_of (encode w) ≡ w

pub sound_words : (w : Window) → Sound w.clock w → Encodes w
unfolding encode is_window window_of
sound_words w g =
    let z = table_sized w g in
    let d = decode_flat (table w) z in
    record { long = length_flat (table w) z; counts = ap valid d ∙ valid_table w g; back = ap read d ∙ read_table w g }

-- words that count as a window are those of the window that is read from them, which is sound
pub words_encode : (ws : List ℕ) → length ws ≡ 4096 → is_window ws ≡ true → encode (window_of ws) ≡ ws
unfolding encode is_window window_of
words_encode ws n e = let z = sized_decode ws n in ap flat (table_read (decode ws) z (facts (decode ws) z e)) ∙ flat_decode ws n

pub words_sound : (ws : List ℕ) → length ws ≡ 4096 → is_window ws ≡ true → Sound (window_of ws).clock (window_of ws)
unfolding is_window window_of
words_sound ws n e = let z = sized_decode ws n in sound_read (decode ws) z (facts (decode ws) z e)

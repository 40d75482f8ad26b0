-- Words that hold a window and nothing else, and the one way in which a step on words is a step on windows. No clock has a part in it: a call sets
-- the last clock as its last step. Assumes nothing.
use Rattle.std.specs.Prelude.{◌≡◌, true, List, [], ◌∷◌, ◌++◌, ℕ, suc, ◌-◌, ◌*◌, ◌≤◌, get_or, drop, replicate, None, Some, Option}
use Rattle.std.proofs.Math.Path.{refl, sym, ap}
use Rattle.std.proofs.Common.{subst, ◌∙◌, arith, length-take, take_at}
use Rattle.std.proofs.Math.ListN.{length, take, length-append, length-replicate}
use Rattle.model.specs.Lists.{pad}
use Rattle.model.specs.Hash.{hashes_in, hashes_words}
use Rattle.model.specs.Layout.{Table, is_window, rising, blank, decode, encode, window_of, read, table, word, words_at, live, settings_of, settings_words, stall_words, stuck_words, cold_words, hedged_words, observation_words, probe_words, planned_words, counts_words, small_words, head_words}
use Rattle.model.specs.Window.{Window, window, queue, races, watch}
use Rattle.model.specs.declared.Hash.{Hash}
use Rattle.model.specs.declared.Entry.{Entry}
use Rattle.model.specs.declared.StallEpisode.{StallEpisode}
use Rattle.model.specs.declared.StuckFrontier.{StuckFrontier}
use Rattle.model.specs.declared.ColdFront.{ColdFront}
use Rattle.model.specs.declared.ColdFront.TheVariants.{Idle, Waiting, Racing}
use Rattle.model.specs.declared.PrefixProbe.{PrefixProbe}
use Rattle.model.specs.declared.Observation.{Observation}
use Rattle.model.specs.declared.Observation.TheVariants.{Unarmed, Armed, Swept}
use Rattle.laws.specs.Tables.{Sized, sized_decode, words_are, decode_flat, length_flat}
use Rattle.laws.specs.Sound.{Sound}
use Rattle.laws.specs.Valid.{rising_is}
use Rattle.laws.specs.Words.{words_encode, words_sound}
use Rattle.laws.specs.Heads.{seg, word_is, length_padded, hashes_said, source_back, flag_back, stall_back, stuck_back, cold_back, observation_back, probe_back}

-- ---- the lengths that every window of words has

pub record Shape (es : List Entry) (ss bs ks cs rs : List ℕ) (hs ps : List Hash) : Type 0 where
  pub few : length es ≤ 256
  pub starts : length ss ≡ 256
  pub bodies : length bs ≡ 256
  pub keys : length ks ≡ 256
  pub cooling : length cs ≡ 256
  pub racers : length rs ≡ 256
  pub hedged : length hs ≤ 2
  pub planned : length ps ≤ 8

-- a part that is not named here may change, and the same proof serves
abbrev pub Shaped : Window → Type 0
Shaped w = Shape w.queue.pending w.queue.starts w.queue.bodies w.keys w.cooling w.races.racers w.races.hedged w.races.planned

-- the words hold a window and nothing else
pub record Whole (ws : List ℕ) : Type 0 where
  pub long : length ws ≡ 4096
  pub kept : table (window_of ws) ≡ decode ws

-- the words hold the window w and nothing else
pub record Holds (w : Window) (ws : List ℕ) : Type 0 where
  pub words : ws ≡ encode w
  pub is : window_of ws ≡ w
  pub whole : Whole ws

-- ---- the lengths of the head's groups

pub length_stall : (x : Option StallEpisode) → length (stall_words x) ≡ 6
length_stall None = refl
length_stall (Some s) = refl

pub length_stuck : (x : Option StuckFrontier) → length (stuck_words x) ≡ 6
length_stuck None = refl
length_stuck (Some s) = refl

pub length_cold : (x : ColdFront) → length (cold_words x) ≡ 7
length_cold Idle = refl
length_cold (Waiting owner h since) = refl
length_cold (Racing owner alternate h) = refl

pub length_observation : (x : Observation) → length (observation_words x) ≡ 6
length_observation Unarmed = refl
length_observation (Armed owner h) = refl
length_observation (Swept owner h) = refl

pub length_probe : (x : Option PrefixProbe) (n : ℕ) → length (probe_words x n) ≡ 4
length_probe None n = refl
length_probe (Some p) n = refl

pub length_hedged : (hs : List Hash) → length hs ≤ 2 → length (hedged_words hs) ≡ 9
unfolding hedged_words
length_hedged hs h = ap suc (length_padded 8 hs (omega arith))

pub length_planned : (hs : List Hash) → length hs ≤ 8 → length (planned_words hs) ≡ 32
unfolding planned_words
length_planned hs h = length_padded 32 hs (omega arith)

-- the count of a probe's hashes is its third word
third : (x : Option PrefixProbe) (n : ℕ) → get_or (probe_words x n) 2 0 ≡ n
third None n = refl
third (Some p) n = refl

-- ---- a window of these lengths, to its table and back

module _ (w : Window) (s : Shaped w) where
  pub read_table : read (table w) ≡ w
  unfolding read table live word words_at settings_of head_words counts_words settings_words small_words hedged_words planned_words pad
  read_table =
      let t = table w in
      let l = head_words w in
      let a = seg 27 33 6 l (stall_words w.watch.stall) _ refl (length_stall w.watch.stall) refl in
      let b = seg 33 39 6 l (stuck_words w.watch.stuck) _ refl (length_stuck w.watch.stuck) a.1 in
      let c = seg 39 46 7 l (cold_words w.races.cold) _ refl (length_cold w.races.cold) b.1 in
      let hs = w.races.hedged in
      let d0 = seg 46 47 1 l (length hs ∷ []) (pad 8 0 (hashes_words hs) ++ _) refl refl c.1 in
      let d = seg 47 55 8 l (pad 8 0 (hashes_words hs)) _ refl (length_padded 8 hs (omega (arith, s.hedged))) d0.1 in
      let e = seg 55 61 6 l (observation_words w.watch.observation) _ refl (length_observation w.watch.observation) d.1 in
      let f = seg 61 65 4 l (probe_words w.races.probe (length w.races.planned)) _ refl (length_probe w.races.probe (length w.races.planned)) e.1 in
      let g = seg 65 97 32 l (planned_words w.races.planned) _ refl (length_planned w.races.planned s.planned) f.1 in
      let ps = w.races.planned in
      let hedged : take (word 46 t) (hashes_in (words_at 47 8 t)) ≡ hs = (λ i. take (word_is t 46 1 (length hs ∷ []) d0.0 0 (omega arith) i) (hashes_in (d.0 i))) ∙ hashes_said 8 hs in
      let n : word 63 t ≡ length ps = word_is t 61 4 (probe_words w.races.probe (length ps)) f.0 2 (omega arith) ∙ third w.races.probe (length ps) in
      let planned : take (word 63 t) (hashes_in (words_at 65 32 t)) ≡ ps = (λ i. take (n i) (hashes_in (g.0 i))) ∙ hashes_said 32 ps in
      λ i. window w.settings w.keys w.clock w.mean w.frontier w.high
      (queue w.queue.total (take_at w.queue.pending (replicate (256 - length w.queue.pending) blank) (length w.queue.pending) refl i) w.queue.starts w.queue.bodies)
      w.cooling (record { eligible = w.fanout.eligible; engaged = flag_back w.fanout.engaged i }) w.pace
      (races (cold_back t w.races.cold c.0 i) (hedged i) (source_back w.races.preferred i)
      (probe_back t w.races.probe (length w.races.planned) f.0 i) (planned i) w.races.racers (source_back w.races.attempted i))
      (watch (stall_back t w.watch.stall a.0 i) (stuck_back t w.watch.stuck b.0 i) (observation_back t w.watch.observation e.0 i))

  sized : Sized (table w)
  unfolding table pad head_words counts_words settings_words small_words
  sized = record {
    entries = length-append w.queue.pending (replicate (256 - length w.queue.pending) blank)
        ∙ omega (arith, length-replicate (256 - length w.queue.pending) blank, s.few);
    spare = length-replicate {A = ℕ} 256 0;
    starts = s.starts;
    bodies = s.bodies;
    keys = s.keys;
    cooling = s.cooling;
    racers = s.racers;
    head = simp length-append (omega (arith, length_stall w.watch.stall, length_stuck w.watch.stuck, length_cold w.races.cold, length_hedged w.races.hedged s.hedged, length_observation w.watch.observation, length_probe w.races.probe (length w.races.planned), length_planned w.races.planned s.planned, length-replicate {A = ℕ} 415 0));
  }

  window_back : window_of (encode w) ≡ w
  unfolding window_of encode
  window_back = ap read (decode_flat (table w) sized) ∙ read_table

  whole_encode : Whole (encode w)
  unfolding encode
  whole_encode = record { long = length_flat (table w) sized; kept = ap table window_back ∙ sym (decode_flat (table w) sized) }

  -- its words hold it
  pub holds_encode : Holds w (encode w)
  holds_encode = record { words = refl; is = window_back; whole = whole_encode }

-- ---- the window of any 4,096 words has these lengths

length_hashes_in : (l : List ℕ) → 4 * length (hashes_in l) ≤ length l
unfolding hashes_in
length_hashes_in [] = omega arith
length_hashes_in (a ∷ []) = omega arith
length_hashes_in (a ∷ b ∷ []) = omega arith
length_hashes_in (a ∷ b ∷ c ∷ []) = omega arith
length_hashes_in (a ∷ b ∷ c ∷ d ∷ l) = omega (arith, length_hashes_in l)

pub read_shaped : (t : Table) → Sized t → Shaped (read t)
unfolding read live words_at
read_shaped t s = record {
  few = rw length-take (omega (arith, s.entries));
  starts = s.starts;
  bodies = s.bodies;
  keys = s.keys;
  cooling = s.cooling;
  racers = s.racers;
  hedged = few (word 46 t) 8 2 (drop 47 t.head) (omega arith);
  planned = few (word 63 t) 32 8 (drop 65 t.head) (omega arith);
}
  where
    few : (n m k : ℕ) (l : List ℕ) → m ≡ 4 * k → length (take n (hashes_in (take m l))) ≤ k
    few n m k l e = rw length-take (omega (arith, length_hashes_in (take m l), length-take m l))

pub words_shaped : (ws : List ℕ) → length ws ≡ 4096 → Shaped (window_of ws)
unfolding window_of
words_shaped ws n = read_shaped (decode ws) (sized_decode ws n)

-- ---- words and the window that they hold

pub holds_whole : (ws : List ℕ) → Whole ws → Holds (window_of ws) ws
unfolding encode
holds_whole ws h = record { words = words_are ws (table (window_of ws)) h.long (sym h.kept); is = refl; whole = h }

-- words that are a window's hold it
pub holds_words : (w : Window) (ws : List ℕ) → Shaped w → ws ≡ encode w → Holds w ws
holds_words w ws s e = rw e (holds_encode w s)

-- THE LIFT: a step on the table that is a step on the window
pub lifted : (ws ws' : List ℕ) (f : Table → Table) (w' : Window) → Whole ws → length ws' ≡ length ws → decode ws' ≡ f (decode ws) → f (table (window_of ws)) ≡ table w'
    → Shaped w' → Holds w' ws'
unfolding encode
lifted ws ws' f w' h n e l s = holds_words w' ws' s (words_are ws' (table w') (n ∙ h.long) (e ∙ ap f (sym h.kept) ∙ l))

-- ---- words that count as a window

pub window_whole : (ws : List ℕ) → length ws ≡ 4096 → is_window ws ≡ true → Whole ws × Sound (window_of ws).clock (window_of ws)
window_whole ws n v = (subst Whole (words_encode ws n v) (holds_encode (window_of ws) (words_shaped ws n)).whole, words_sound ws n v)

-- the entries of a sound window rise, as a search among them asks
pub sound_rises : (c : ℕ) (w : Window) → Sound c w → rising w.queue.pending ≡ true
sound_rises c w g = rising_is 0 w.queue.pending g.queue.rising

-- The tests on a table, part by part, as facts on numbers and the other way round. Assumes nothing.
use Rattle.std.specs.Prelude.{◌≡◌, refl, Bool, true, cond, List, [], ◌∷◌, ◌++◌, length, get_or, take, drop, replicate, eqb, leb, ltb, None, Some, Option}
use Rattle.std.proofs.Common.{inl, inr, arith, length-drop, length-take-le}
use Rattle.std.proofs.lemmas.Bool.{false≢true}
use Prim.Native.Nat.{ℕ, zero, suc, ◌+◌, ◌*◌, ◌≤◌, ◌<◌}
use borrow.Author.Tests.{eqb-true, eqb-false, eq-eqb, ne_eqb, leb-true, le-leb, ltb-true, lt-ltb}
use Rattle.model.specs.Numbers.{max_height, min_estimate, max_estimate, max_seat}
use Rattle.model.specs.Lists.{all, every, pad}
use Rattle.model.specs.Hash.{key, less, hash_words, hashes_in, hashes_words}
use Rattle.model.specs.Seats.{oldest}
use Rattle.model.specs.Layout.{Table, blank, word, words_at, hash_at, is_0, zeros, time_ok, is_blank, entry_ok, less_first, rising, start_ok, starts_ok, stall_words, stall_of, stuck_words, stuck_of, cold_words, cold_of, observation_words, observation_of, probe_words, planned_words, probe_of, stall_ok, stuck_ok, cold_by, cold_ok, observation_by, observation_ok, probe_ok}
use Rattle.model.specs.declared.Hash.{Hash}
use Rattle.model.specs.declared.Entry.{Entry}
use Rattle.model.specs.declared.StallEpisode.{StallEpisode}
use Rattle.model.specs.declared.StuckFrontier.{StuckFrontier}
use Rattle.model.specs.declared.ColdFront.{ColdFront}
use Rattle.model.specs.declared.ColdFront.TheVariants.{Idle, Waiting, Racing}
use Rattle.model.specs.declared.PrefixProbe.{PrefixProbe}
use Rattle.model.specs.declared.Observation.{Observation}
use Rattle.model.specs.declared.Observation.TheVariants.{Unarmed, Armed, Swept}
use Rattle.laws.specs.Numbers.{both, and_left, and_right}
use Rattle.laws.specs.Every.{hold, and_so, all_first, all_rest}
use Rattle.laws.specs.Entries.{Rising, Each}
use Rattle.laws.specs.Sound.{InRange, Seat, SoundStall, SoundStuck, SoundCold, SoundObservation, SoundProbe}
use Rattle.laws.specs.Heads.{word_is, words_join, all_zeros, padded_zero, count_said}

-- ---- 256 numbers

pub bounded_all : (b : ℕ) (l : List ℕ) → ((s : ℕ) → get_or l s 0 ≤ b) → all (λ s. leb s b) l ≡ true
unfolding all
bounded_all b [] f = refl
bounded_all b (x ∷ l) f = and_so (le-leb x b (f 0)) (bounded_all b l (λ s. f (suc s)))

pub all_bounded : (b : ℕ) (l : List ℕ) → all (λ s. leb s b) l ≡ true → (s : ℕ) → get_or l s 0 ≤ b
all_bounded b [] e s = omega arith
all_bounded b (x ∷ l) e zero = leb-true x b (all_first (λ y. leb y b) x l e)
all_bounded b (x ∷ l) e (suc s) = all_bounded b l (all_rest (λ y. leb y b) x l e) s

pub noughts_all : (l : List ℕ) → ((s : ℕ) → get_or l s 0 ≤ 0) → all is_0 l ≡ true
unfolding all
noughts_all [] f = refl
noughts_all (x ∷ l) f = and_so (eq-eqb x 0 (omega (arith, f 0))) (noughts_all l (λ s. f (suc s)))

pub all_noughts : (l : List ℕ) → all is_0 l ≡ true → (s : ℕ) → get_or l s 0 ≤ 0
all_noughts [] e s = omega arith
all_noughts (x ∷ l) e zero = omega (arith, eqb-true x 0 (all_first is_0 x l e))
all_noughts (x ∷ l) e (suc s) = all_noughts l (all_rest is_0 x l e) s

-- ---- entries

abbrev ranges : ℕ → Entry → List Bool
ranges c e = leb e.owner max_seat ∷ leb e.time c ∷ leb e.height max_height ∷ leb min_estimate e.estimate ∷ leb e.estimate max_estimate ∷ []

entry_is : (c : ℕ) (e : Entry) → InRange c e → entry_ok c e ≡ true
unfolding entry_ok every
entry_is c e h =
    and_so (le-leb e.owner max_seat h.owner) (and_so (le-leb e.time c h.time) (and_so (le-leb e.height max_height h.height)
    (and_so (le-leb min_estimate e.estimate h.least) (and_so (le-leb e.estimate max_estimate h.most) refl))))

entry_in : (c : ℕ) (e : Entry) → entry_ok c e ≡ true → InRange c e
unfolding entry_ok
entry_in c e q = record {
  owner = leb-true e.owner max_seat (hold (ranges c e) q 0);
  time = leb-true e.time c (hold (ranges c e) q 1);
  height = leb-true e.height max_height (hold (ranges c e) q 2);
  least = leb-true min_estimate e.estimate (hold (ranges c e) q 3);
  most = leb-true e.estimate max_estimate (hold (ranges c e) q 4);
}

pub each_all : (c : ℕ) (l : List Entry) → Each (InRange c) l → all (entry_ok c) l ≡ true
unfolding all
each_all c [] a = refl
each_all c (e ∷ l) a = and_so (entry_is c e a.0) (each_all c l a.1)

pub all_each : (c : ℕ) (l : List Entry) → all (entry_ok c) l ≡ true → Each (InRange c) l
all_each c [] q = tt
all_each c (e ∷ l) q = (entry_in c e (all_first (entry_ok c) e l q), all_each c l (all_rest (entry_ok c) e l q))

less_is : (e : Entry) (l : List Entry) → Rising (suc (key e.hash)) l → less_first e l ≡ true
unfolding less
less_is e [] r = refl
less_is e (x ∷ l) r = lt-ltb (key e.hash) (key x.hash) r.0

pub rising_is : (lo : ℕ) (l : List Entry) → Rising lo l → rising l ≡ true
unfolding rising
rising_is lo [] r = refl
rising_is lo (e ∷ l) r = and_so (less_is e l r.1) (rising_is (suc (key e.hash)) l r.1)

rises_from : (e : Entry) (l : List Entry) → less_first e l ≡ true → Rising 0 l → Rising (suc (key e.hash)) l
unfolding less
rises_from e [] q r = tt
rises_from e (x ∷ l) q r = (ltb-true (key e.hash) (key x.hash) q, r.1)

pub is_rising : (l : List Entry) → rising l ≡ true → Rising 0 l
unfolding rising
is_rising [] q = tt
is_rising (e ∷ l) q = (omega arith, rises_from e l (and_left (less_first e l) (rising l) q) (is_rising l (and_right (less_first e l) (rising l) q)))

blank_is : (e : Entry) → is_blank e ≡ true → e ≡ blank
unfolding is_blank
blank_is e q = λ i. record {
  hash = record { a = eqb-true e.hash.a 0 (hold _ q 0) i; b = eqb-true e.hash.b 0 (hold _ q 1) i; c = eqb-true e.hash.c 0 (hold _ q 2) i; d = eqb-true e.hash.d 0 (hold _ q 3) i };
  owner = eqb-true e.owner 0 (hold _ q 4) i;
  time = eqb-true e.time 0 (hold _ q 5) i;
  height = eqb-true e.height 0 (hold _ q 6) i;
  estimate = eqb-true e.estimate 0 (hold _ q 7) i;
}

pub blanks_are : (l : List Entry) → all is_blank l ≡ true → l ≡ replicate (length l) blank
blanks_are [] q = refl
blanks_are (e ∷ l) q = λ i. blank_is e (all_first is_blank e l q) i ∷ blanks_are l (all_rest is_blank e l q) i

pub all_blanks : (n : ℕ) → all is_blank (replicate n blank) ≡ true
unfolding all is_blank every
all_blanks zero = refl
all_blanks (suc n) = all_blanks n

-- ---- starts

start_is : (c old s : ℕ) → Seat old s (suc c) → start_ok c old s ≡ true
unfolding start_ok every
start_is c old s h = elim (both (eqb old 0)) [
  | inl q ↦ rw q (eq-eqb s 0 (h.none (eqb-true old 0 q)))
  | inr q ↦ rw q (and_so (le-leb old s h.above) (and_so (le-leb s (suc c) h.below) refl))
]

is_start : (c old s : ℕ) → start_ok c old s ≡ true → Seat old s (suc c)
unfolding start_ok
is_start c old s k = elim (both (eqb old 0)) [
  | inl q ↦ let z : s ≡ 0 = eqb-true s 0 (rw q at k) in record { none = λ y. z; above = omega (arith, eqb-true old 0 q); below = omega arith }
  | inr q ↦
      let bs = leb old s ∷ leb s (suc c) ∷ [] in
      let k' : every bs ≡ true = rw q at k in
      record { none = λ y. absurd (eqb-false old 0 q y); above = leb-true old s (hold bs k' 0); below = leb-true s (suc c) (hold bs k' 1) }
]

pub starts_all : (c : ℕ) (l : List Entry) (i : ℕ) (ss : List ℕ) → ((k : ℕ) → k < length ss → Seat (oldest (i + k) l) (get_or ss k 0) (suc c)) → starts_ok c l i ss ≡ true
unfolding starts_ok
starts_all c l i [] f = refl
starts_all c l i (s ∷ ss) f =
    let e : i + 0 ≡ i = omega arith in
    and_so (start_is c (oldest i l) s (rw e at (f 0 (omega arith)))) (starts_all c l (suc i) ss (λ k b. let e : i + suc k ≡ suc i + k = omega arith in rw e at (f (suc k) (omega arith))))

pub starts_each : (c : ℕ) (l : List Entry) (i : ℕ) (ss : List ℕ) → starts_ok c l i ss ≡ true → (k : ℕ) → k < length ss → Seat (oldest (i + k) l) (get_or ss k 0) (suc c)
unfolding starts_ok
starts_each c l i [] q k b = absurd (omega arith)
starts_each c l i (s ∷ ss) q zero b =
    let e : i + 0 ≡ i = omega arith in
    rw e (is_start c (oldest i l) s (and_left (start_ok c (oldest i l) s) (starts_ok c l (suc i) ss) q))
starts_each c l i (s ∷ ss) q (suc k) b =
    let e : i + suc k ≡ suc i + k = omega arith in
    rw e (starts_each c l (suc i) ss (and_right (start_ok c (oldest i l) s) (starts_ok c l (suc i) ss) q) k (omega arith))

-- ---- the head's groups: a sound group passes its test

module _ (t : Table) (c : ℕ) (e : word 2 t ≡ c) where
  time_is : (s : ℕ) → s ≤ suc c → time_ok s t ≡ true
  time_is s h = le-leb s (suc (word 2 t)) (omega arith)

  pub stall_valid : (s : Option StallEpisode) → words_at 27 6 t ≡ stall_words s → SoundStall c s → stall_ok t ≡ true
  unfolding stall_ok zeros every
  stall_valid None q h = rw (word_is t 27 6 (replicate 6 0) q 0 (omega arith), q) (all_zeros 6)
  stall_valid (Some s) q h =
      let at = word_is t 27 6 (suc s.since ∷ s.owner ∷ hash_words s.front) q in
      rw (at 0 (omega arith), at 1 (omega arith), ne_eqb (suc s.since) 0 (λ (z : suc s.since ≡ 0). omega arith))
      (and_so (time_is (suc s.since) (omega arith)) (and_so (le-leb s.owner max_seat h.0) refl))

  pub stuck_valid : (s : Option StuckFrontier) → words_at 33 6 t ≡ stuck_words s → SoundStuck c s → stuck_ok t ≡ true
  unfolding stuck_ok zeros every
  stuck_valid None q h = rw (word_is t 33 6 (replicate 6 0) q 0 (omega arith), q) (all_zeros 6)
  stuck_valid (Some s) q h =
      let at = word_is t 33 6 (suc s.since ∷ s.height ∷ hash_words s.front) q in
      rw (at 0 (omega arith), at 1 (omega arith), ne_eqb (suc s.since) 0 (λ (z : suc s.since ≡ 0). omega arith))
      (and_so (time_is (suc s.since) (omega arith)) (and_so (le-leb s.height max_height h.0) refl))

  pub cold_valid : (s : ColdFront) → words_at 39 7 t ≡ cold_words s → SoundCold c s → cold_ok t ≡ true
  unfolding cold_ok zeros every
  cold_valid Idle q h = rw (word_is t 39 7 (replicate 7 0) q 0 (omega arith), q) (all_zeros 7)
  cold_valid (Waiting owner x since) q h =
      let at = word_is t 39 7 (1 ∷ owner ∷ suc since ∷ hash_words x) q in
      rw (at 0 (omega arith), at 1 (omega arith), at 2 (omega arith))
      (and_so (le-leb owner max_seat h.0) (and_so (lt-ltb 0 (suc since) (omega arith)) (and_so (time_is (suc since) (omega arith)) refl)))
  cold_valid (Racing owner alternate x) q h =
      let at = word_is t 39 7 (2 ∷ owner ∷ alternate ∷ hash_words x) q in
      rw (at 0 (omega arith), at 1 (omega arith), at 2 (omega arith)) (and_so (le-leb owner max_seat h.0) (and_so (le-leb alternate max_seat h.1) refl))

  pub observation_valid : (s : Observation) → words_at 55 6 t ≡ observation_words s → SoundObservation s → observation_ok t ≡ true
  unfolding observation_ok zeros
  observation_valid Unarmed q h = rw (word_is t 55 6 (replicate 6 0) q 0 (omega arith), q) (all_zeros 6)
  observation_valid (Armed owner x) q h =
      let at = word_is t 55 6 (1 ∷ owner ∷ hash_words x) q in rw (at 0 (omega arith), at 1 (omega arith)) (le-leb owner max_seat h)
  observation_valid (Swept owner x) q h =
      let at = word_is t 55 6 (2 ∷ owner ∷ hash_words x) q in rw (at 0 (omega arith), at 1 (omega arith)) (le-leb owner max_seat h)

-- ---- a group that passes its test is sound

pub record StallFacts (t : Table) : Type 0 where
  pub none : word 27 t ≡ 0 → zeros 27 6 t ≡ true
  pub sound : SoundStall (word 2 t) (stall_of (word 27 t) (word 28 t) (hash_at 29 t))

-- a state with a first word that is there: since when, and a seat or a height
there : (m a b c : ℕ) (z : Bool) → cond (is_0 (suc a)) z (every (leb (suc a) (suc c) ∷ leb b m ∷ [])) ≡ true → (b ≤ m) × (a ≤ c)
there m a b c z q =
    let bs = leb (suc a) (suc c) ∷ leb b m ∷ [] in
    let q' : every bs ≡ true = rw (ne_eqb (suc a) 0 (λ (x : suc a ≡ 0). omega arith)) at q in
    (leb-true b m (hold bs q' 1), omega (arith, leb-true (suc a) (suc c) (hold bs q' 0)))

-- by the first word
stall_by : (a b c : ℕ) (h : Hash) (z : Bool) → cond (is_0 a) z (every (leb a (suc c) ∷ leb b max_seat ∷ [])) ≡ true → (a ≡ 0 → z ≡ true) × SoundStall c (stall_of a b h)
stall_by zero b c h z q = (λ x. q, tt)
stall_by (suc a) b c h z q = (λ x. absurd (omega arith), there max_seat a b c z q)

pub stall_facts : (t : Table) → stall_ok t ≡ true → StallFacts t
unfolding stall_ok
stall_facts t q = let r = stall_by (word 27 t) (word 28 t) (word 2 t) (hash_at 29 t) (zeros 27 6 t) q in record { none = r.0; sound = r.1 }

pub record StuckFacts (t : Table) : Type 0 where
  pub none : word 33 t ≡ 0 → zeros 33 6 t ≡ true
  pub sound : SoundStuck (word 2 t) (stuck_of (word 33 t) (word 34 t) (hash_at 35 t))

stuck_by : (a b c : ℕ) (h : Hash) (z : Bool) → cond (is_0 a) z (every (leb a (suc c) ∷ leb b max_height ∷ [])) ≡ true → (a ≡ 0 → z ≡ true) × SoundStuck c (stuck_of a b h)
stuck_by zero b c h z q = (λ x. q, tt)
stuck_by (suc a) b c h z q = (λ x. absurd (omega arith), there max_height a b c z q)

pub stuck_facts : (t : Table) → stuck_ok t ≡ true → StuckFacts t
unfolding stuck_ok
stuck_facts t q = let r = stuck_by (word 33 t) (word 34 t) (word 2 t) (hash_at 35 t) (zeros 33 6 t) q in record { none = r.0; sound = r.1 }

pub record ColdFacts (t : Table) : Type 0 where
  pub none : word 39 t ≡ 0 → zeros 39 7 t ≡ true
  pub waits : word 39 t ≡ 1 → 0 < word 41 t
  pub most : word 39 t ≤ 2
  pub sound : SoundCold (word 2 t) (cold_of (word 39 t) (word 40 t) (word 41 t) (hash_at 42 t))

cold_facts_by : (a : ℕ) (t : Table) → cold_by a t ≡ true
    → (a ≡ 0 → zeros 39 7 t ≡ true) × (a ≡ 1 → 0 < word 41 t) × (a ≤ 2) × SoundCold (word 2 t) (cold_of a (word 40 t) (word 41 t) (hash_at 42 t))
cold_facts_by zero t q = (λ x. q, λ x. absurd (omega arith), omega arith, tt)
cold_facts_by (suc zero) t q =
    let bs = leb (word 40 t) max_seat ∷ ltb 0 (word 41 t) ∷ time_ok (word 41 t) t ∷ [] in
    let pos = ltb-true 0 (word 41 t) (hold bs q 1) in
    (λ x. absurd (omega arith), λ x. pos, omega arith, (leb-true (word 40 t) max_seat (hold bs q 0), omega (arith, pos, leb-true (word 41 t) (suc (word 2 t)) (hold bs q 2))))
cold_facts_by (suc (suc zero)) t q =
    let bs = leb (word 40 t) max_seat ∷ leb (word 41 t) max_seat ∷ [] in
    (λ x. absurd (omega arith), λ x. absurd (omega arith), omega arith, (leb-true (word 40 t) max_seat (hold bs q 0), leb-true (word 41 t) max_seat (hold bs q 1)))
cold_facts_by (suc (suc (suc a))) t q = absurd (false≢true q)

pub cold_facts : (t : Table) → cold_ok t ≡ true → ColdFacts t
unfolding cold_ok
cold_facts t q = let r = cold_facts_by (word 39 t) t q in record { none = r.0; waits = r.1; most = r.2; sound = r.3 }

pub record ObservationFacts (t : Table) : Type 0 where
  pub none : word 55 t ≡ 0 → zeros 55 6 t ≡ true
  pub most : word 55 t ≤ 2
  pub sound : SoundObservation (observation_of (word 55 t) (word 56 t) (hash_at 57 t))

observation_facts_by : (a : ℕ) (t : Table) → observation_by a t ≡ true → (a ≡ 0 → zeros 55 6 t ≡ true) × (a ≤ 2) × SoundObservation (observation_of a (word 56 t) (hash_at 57 t))
observation_facts_by zero t q = (λ x. q, omega arith, tt)
observation_facts_by (suc zero) t q = (λ x. absurd (omega arith), omega arith, leb-true (word 56 t) max_seat q)
observation_facts_by (suc (suc zero)) t q = (λ x. absurd (omega arith), omega arith, leb-true (word 56 t) max_seat q)
observation_facts_by (suc (suc (suc a))) t q = absurd (false≢true q)

pub observation_facts : (t : Table) → observation_ok t ≡ true → ObservationFacts t
unfolding observation_ok
observation_facts t q = let r = observation_facts_by (word 55 t) t q in record { none = r.0; most = r.1; sound = r.2 }

-- ---- the probe with its hashes

all_second : {A : Type 0} (p : A → Bool) (l m : List A) → all p (l ++ m) ≡ true → all p m ≡ true
all_second p [] m q = q
all_second p (x ∷ l) m q = all_second p l m (all_rest p x (l ++ m) q)

pub probe_valid : (t : Table) (c : ℕ) → word 2 t ≡ c → (p : Option PrefixProbe) (hs : List Hash) → words_at 61 4 t ≡ probe_words p (length hs) → words_at 65 32 t ≡ planned_words hs
    → SoundProbe c p hs t.racers → probe_ok t ≡ true
unfolding probe_ok zeros every planned_words pad hashes_words
probe_valid t c e None hs q k h =
    let at = word_is t 61 4 (0 ∷ 0 ∷ length hs ∷ 0 ∷ []) q in
    let z : all is_0 (words_at 61 36 t) ≡ true =
    rw (words_join t 61 4 32, q, k, h.0) (all_zeros 36) in
    rw (at 0 (omega arith)) (and_so z (and_so (noughts_all t.racers h.1.most) refl))
probe_valid t c e (Some p) hs q k h =
    let at = word_is t 61 4 (suc p.started ∷ p.owner ∷ length hs ∷ p.accepted ∷ []) q in
    rw (at 0 (omega arith), at 1 (omega arith), at 2 (omega arith), at 3 (omega arith), k, ne_eqb (suc p.started) 0 (λ (z : suc p.started ≡ 0). omega arith))
    (and_so (time_is t c e (suc p.started) (omega arith)) (and_so (le-leb p.owner max_seat h.0) (and_so (le-leb (length hs) 8 h.3) (and_so (le-leb p.accepted 255 h.1) (and_so (padded_zero 32 hs) refl)))))

pub record ProbeFacts (t : Table) : Type 0 where
  pub none : word 61 t ≡ 0 → (word 62 t ≡ 0) × (word 64 t ≡ 0)
  pub most : word 63 t ≤ 8
  pub clear : all is_0 (drop (4 * word 63 t) (words_at 65 32 t)) ≡ true
  pub sound : length t.racers ≡ 256 → SoundProbe (word 2 t) (probe_of (word 61 t) (word 62 t) (word 64 t)) (take (word 63 t) (hashes_in (words_at 65 32 t))) t.racers

noughts_word : (t : Table) (k n i : ℕ) → zeros k n t ≡ true → i < n → word (k + i) t ≡ 0
unfolding zeros
noughts_word t k n i q h = omega (arith, word_is t k n (words_at k n t) refl i h, all_noughts (words_at k n t) q i)

-- without a probe
probe_none : (t : Table) → word 61 t ≡ 0 → zeros 61 36 t ≡ true → all is_0 t.racers ≡ true → ProbeFacts t
unfolding zeros
probe_none t e z r =
    let n : word 63 t ≡ 0 = noughts_word t 61 36 2 z (omega arith) in
    record {
      none = λ x. (noughts_word t 61 36 1 z (omega arith), noughts_word t 61 36 3 z (omega arith));
      most = omega arith;
      clear = rw n (all_second is_0 (words_at 61 4 t) (words_at 65 32 t) (rw (words_join t 61 4 32) at z));
      sound = λ k. rw (e, n) (refl, record { places = k; most = all_noughts t.racers r });
    }

probing_sound : (a b d c : ℕ) (hs : List Hash) (rs : List ℕ) → (a ≡ 0 → ⊥) → a ≤ suc c → b ≤ max_seat → d ≤ 255 → length hs ≤ 8 → SoundProbe c (probe_of a b d) hs rs
probing_sound zero b d c hs rs n h i j k = absurd (n refl)
probing_sound (suc a) b d c hs rs n h i j k = (i, j, omega arith, k)

pub probe_facts : (t : Table) → length t.head ≡ 512 → probe_ok t ≡ true → ProbeFacts t
unfolding probe_ok words_at
probe_facts t len q = elim (both (eqb (word 61 t) 0)) [
  | inl z ↦
      let q' = rw z at q in
      probe_none t (eqb-true (word 61 t) 0 z) (hold _ q' 0) (hold _ q' 1)
  | inr z ↦
      let q' = rw z at q in
      let n = eqb-false (word 61 t) 0 z in
      let h = hold _ q' in
      let most = leb-true (word 63 t) 8 (h 2) in
      record {
        none = λ x. absurd (n x);
        most = most;
        clear = h 4;
        sound = λ k. probing_sound (word 61 t) (word 62 t) (word 64 t) (word 2 t) _ t.racers n (leb-true (word 61 t) (suc (word 2 t)) (h 0)) (leb-true (word 62 t) max_seat (h 1)) (leb-true (word 64 t) 255 (h 3))
            (omega (arith, count_said 32 (word 63 t) (take 32 (drop 65 t.head)) (length-take-le 32 (drop 65 t.head) (rw length-drop (omega arith))) (omega arith)));
      }
]

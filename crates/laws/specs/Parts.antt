-- Soundness part by part: what keeps 256 numbers bounded, a later clock, and a window of which one part is another. Assumes nothing.
use Rattle.std.specs.Prelude.{◌≡◌, Bool, cond, length, get_or, set, replicate, Option, None, Some}
use Rattle.std.proofs.Math.Path.{refl, ap}
use Rattle.std.proofs.Common.{◌∙◌, add-suc, suc-add, arith, length-set}
use Rattle.std.proofs.Math.Logic.{inl, inr}
use mathlib.Core.List.{List, [], ◌∷◌, map}
use Prim.Native.Nat.{ℕ, zero, suc, ◌+◌, ◌≤◌}
use Rattle.std.proofs.Math.Nat.{add-zero}
use Rattle.std.proofs.lemmas.List.{length-map, length-replicate}
use Rattle.model.specs.Numbers.{max_clock, max_height, min_estimate, max_estimate}
use Rattle.model.specs.Seats.{keep_seats}
use Rattle.model.specs.Window.{Window, Queue, HighWater, Races, Watch, with_clock, with_mean, with_frontier, with_high, with_queue, with_cooling, with_fanout, with_pace, with_races, with_watch, with_cold, with_hedged, with_preferred, with_attempted, with_probe, without_probe, with_stall, with_stuck, with_observation, no_seats}
use Rattle.model.specs.declared.Hash.{Hash}
use Rattle.model.specs.declared.Pace.{Pace}
use Rattle.model.specs.declared.Fanout.{Fanout}
use Rattle.model.specs.declared.Observation.{Observation}
use Rattle.model.specs.declared.StallEpisode.{StallEpisode}
use Rattle.model.specs.declared.StuckFrontier.{StuckFrontier}
use Rattle.model.specs.declared.ColdFront.{ColdFront}
use Rattle.model.specs.declared.ColdFront.TheVariants.{Idle, Waiting, Racing}
use Rattle.model.specs.declared.PrefixProbe.{PrefixProbe}
use Rattle.laws.specs.Numbers.{both}
use Rattle.laws.specs.Entries.{each_map}
use Rattle.laws.specs.Sound.{Bounded, SoundQueue, NoLower, SoundPace, SoundSource, SoundCold, SoundProbe, SoundRaces, SoundStall, SoundStuck, SoundObservation, SoundWatch, Sound}

-- ---- 256 bounded numbers

get_or_set_le : (b v : ℕ) → v ≤ b → (l : List ℕ) (i s : ℕ) → ((j : ℕ) → get_or l j 0 ≤ b) → get_or (set l i v) s 0 ≤ b
get_or_set_le b v h [] i s f = f s
get_or_set_le b v h (x ∷ l) zero zero f = h
get_or_set_le b v h (x ∷ l) zero (suc s) f = f (suc s)
get_or_set_le b v h (x ∷ l) (suc i) zero f = f 0
get_or_set_le b v h (x ∷ l) (suc i) (suc s) f = get_or_set_le b v h l i s (λ j. f (suc j))

pub bounded_set : {b : ℕ} {l : List ℕ} (i v : ℕ) → v ≤ b → Bounded b l → Bounded b (set l i v)
bounded_set {b} {l} i v h k = record { places = length-set l i v ∙ k.places; most = λ s. get_or_set_le b v h l i s k.most }

get_or_map_le : (f : ℕ → ℕ) (b : ℕ) → ((x : ℕ) → f x ≤ x) → (l : List ℕ) (s : ℕ) → get_or l s 0 ≤ b → get_or (map f l) s 0 ≤ b
get_or_map_le f b h [] s k = k
get_or_map_le f b h (x ∷ l) zero k = omega (arith, h x)
get_or_map_le f b h (x ∷ l) (suc s) k = get_or_map_le f b h l s k

pub bounded_map : {b : ℕ} {l : List ℕ} (f : ℕ → ℕ) → ((x : ℕ) → f x ≤ x) → Bounded b l → Bounded b (map f l)
bounded_map {b} {l} f h k = record { places = length-map l f ∙ k.places; most = λ s. get_or_map_le f b h l s (k.most s) }

get_or_zeros : (n s : ℕ) → get_or {A = ℕ} (replicate n 0) s 0 ≡ 0
get_or_zeros zero s = refl
get_or_zeros (suc n) zero = refl
get_or_zeros (suc n) (suc s) = get_or_zeros n s

pub no_seats_at : (s : ℕ) → get_or no_seats s 0 ≡ 0
no_seats_at s = get_or_zeros 256 s

pub bounded_none : (b : ℕ) → Bounded b no_seats
bounded_none b = record { places = length-replicate {A = ℕ} 256 0; most = λ s. omega (arith, no_seats_at s) }

pub bounded_weaken : {b b' : ℕ} {l : List ℕ} → b ≤ b' → Bounded b l → Bounded b' l
bounded_weaken h k = record { places = k.places; most = λ s. omega (arith, k.most s) }

module _ (keep : ℕ → Bool) where
  pub get_or_keep : (a : ℕ) (l : List ℕ) (s : ℕ) → get_or (keep_seats keep a l) s 0 ≡ cond (keep (a + s)) (get_or l s 0) 0
  unfolding keep_seats
  get_or_keep a [] s = elim (both (keep (a + s))) [ inl q ↦ rw q | inr q ↦ rw q ]
  get_or_keep a (x ∷ l) zero = rw add-zero
  get_or_keep a (x ∷ l) (suc s) = rw (add-suc, ← suc-add) (get_or_keep (suc a) l s)

  pub length_keep : (a : ℕ) (l : List ℕ) → length (keep_seats keep a l) ≡ length l
  unfolding keep_seats
  length_keep a [] = refl
  length_keep a (x ∷ l) = ap suc (length_keep (suc a) l)

  pub keep_le : (l : List ℕ) (s : ℕ) → get_or (keep_seats keep 0 l) s 0 ≤ get_or l s 0
  keep_le l s = rw (get_or_keep 0 l s) (elim (both (keep (0 + s))) [ inl q ↦ rw q (omega arith) | inr q ↦ rw q (omega arith) ])

  pub bounded_keep : {b : ℕ} {l : List ℕ} → Bounded b l → Bounded b (keep_seats keep 0 l)
  bounded_keep {b} {l} k = record { places = length_keep 0 l ∙ k.places; most = λ s. omega (arith, keep_le l s, k.most s) }

-- ---- a later clock

module _ {c d : ℕ} (b : c ≤ d) where
  later_queue : {q : Queue} → SoundQueue c q → SoundQueue d q
  later_queue {q} h = record {
    rising = h.rising;
    few = h.few;
    each = each_map (λ e k. record { owner = k.owner; time = omega (arith, k.time); height = k.height; least = k.least; most = k.most }) q.pending h.each;
    total = h.total;
    seats = h.seats;
    starts = λ s k. let u = h.starts s k in record { none = u.none; above = u.above; below = omega (arith, u.below) };
    bodies = bounded_weaken (omega arith) h.bodies;
  }

  later_cold : (x : ColdFront) → SoundCold c x → SoundCold d x
  later_cold Idle h = tt
  later_cold (Waiting owner x since) h = omega arith
  later_cold (Racing owner alternate x) h = h

  later_probe : (x : Option PrefixProbe) (hs : List Hash) (rs : List ℕ) → SoundProbe c x hs rs → SoundProbe d x hs rs
  later_probe None hs rs h = h
  later_probe (Some p) hs rs h = omega arith

  later_stall : (x : Option StallEpisode) → SoundStall c x → SoundStall d x
  later_stall None h = tt
  later_stall (Some s) h = omega arith

  later_stuck : (x : Option StuckFrontier) → SoundStuck c x → SoundStuck d x
  later_stuck None h = tt
  later_stuck (Some s) h = omega arith

  pub later : {w : Window} → d ≤ max_clock → Sound c w → Sound d w
  later {w} m g = record {
    clock = m;
    settings = g.settings;
    keys = g.keys;
    mean_least = g.mean_least;
    mean_most = g.mean_most;
    frontier = g.frontier;
    high = g.high;
    queue = later_queue g.queue;
    cooling = bounded_weaken (omega arith) g.cooling;
    pace = let p = g.pace in record { mean = p.mean; advance = omega (arith, p.advance); wait = p.wait };
    races = let r = g.races in record {
      cold = later_cold w.races.cold r.cold;
      hedged = r.hedged;
      preferred = r.preferred;
      probe = later_probe w.races.probe w.races.planned w.races.racers r.probe;
      racers = r.racers;
      attempted = r.attempted;
    };
    watch = let x = g.watch in record {
      stall = later_stall w.watch.stall x.stall;
      stuck = later_stuck w.watch.stuck x.stuck;
      observation = x.observation;
    };
  }

-- ---- one part changed

module _ {c : ℕ} {w : Window} (g : Sound c w) where
  pub sound_clock : (d : ℕ) → Sound c (with_clock d w)
  sound_clock d = record { clock = g.clock; settings = g.settings; keys = g.keys; mean_least = g.mean_least; mean_most = g.mean_most; frontier = g.frontier; high = g.high; queue = g.queue; cooling = g.cooling; pace = g.pace; races = g.races; watch = g.watch }

  pub sound_mean : (m : ℕ) → min_estimate ≤ m → m ≤ max_estimate → Sound c (with_mean m w)
  sound_mean m a b = record { clock = g.clock; settings = g.settings; keys = g.keys; mean_least = a; mean_most = b; frontier = g.frontier; high = g.high; queue = g.queue; cooling = g.cooling; pace = g.pace; races = g.races; watch = g.watch }

  pub sound_frontier : (f : ℕ) → f ≤ max_height → Sound c (with_frontier f w)
  sound_frontier f b = record { clock = g.clock; settings = g.settings; keys = g.keys; mean_least = g.mean_least; mean_most = g.mean_most; frontier = b; high = g.high; queue = g.queue; cooling = g.cooling; pace = g.pace; races = g.races; watch = g.watch }

  -- both together, as a request raises the high waters with the queue
  pub sound_filled : (q : Queue) (h : HighWater) → SoundQueue c q → NoLower h q → Sound c (with_high h (with_queue q w))
  sound_filled q h k b = record {
    clock = g.clock;
    settings = g.settings;
    keys = g.keys;
    mean_least = g.mean_least;
    mean_most = g.mean_most;
    frontier = g.frontier;
    high = b;
    queue = k;
    cooling = g.cooling;
    pace = g.pace;
    races = g.races;
    watch = g.watch;
  }

  pub sound_queue : (q : Queue) → SoundQueue c q → NoLower w.high q → Sound c (with_queue q w)
  sound_queue q k b = sound_filled q w.high k b

  pub sound_cooling : (l : List ℕ) → Bounded (suc c) l → Sound c (with_cooling l w)
  sound_cooling l k = record { clock = g.clock; settings = g.settings; keys = g.keys; mean_least = g.mean_least; mean_most = g.mean_most; frontier = g.frontier; high = g.high; queue = g.queue; cooling = k; pace = g.pace; races = g.races; watch = g.watch }

  pub sound_fanout : (f : Fanout) → Sound c (with_fanout f w)
  sound_fanout f = record { clock = g.clock; settings = g.settings; keys = g.keys; mean_least = g.mean_least; mean_most = g.mean_most; frontier = g.frontier; high = g.high; queue = g.queue; cooling = g.cooling; pace = g.pace; races = g.races; watch = g.watch }

  pub sound_pace : (p : Pace) → SoundPace c p → Sound c (with_pace p w)
  sound_pace p k = record { clock = g.clock; settings = g.settings; keys = g.keys; mean_least = g.mean_least; mean_most = g.mean_most; frontier = g.frontier; high = g.high; queue = g.queue; cooling = g.cooling; pace = k; races = g.races; watch = g.watch }

  pub sound_races : (r : Races) → SoundRaces c r → Sound c (with_races r w)
  sound_races r k = record { clock = g.clock; settings = g.settings; keys = g.keys; mean_least = g.mean_least; mean_most = g.mean_most; frontier = g.frontier; high = g.high; queue = g.queue; cooling = g.cooling; pace = g.pace; races = k; watch = g.watch }

  pub sound_watch : (x : Watch) → SoundWatch c x → Sound c (with_watch x w)
  sound_watch x k = record { clock = g.clock; settings = g.settings; keys = g.keys; mean_least = g.mean_least; mean_most = g.mean_most; frontier = g.frontier; high = g.high; queue = g.queue; cooling = g.cooling; pace = g.pace; races = g.races; watch = k }

  pub sound_cold : (x : ColdFront) → SoundCold c x → Sound c (with_cold x w)
  sound_cold x k = let r = g.races in sound_races _ (record { cold = k; hedged = r.hedged; preferred = r.preferred; probe = r.probe; racers = r.racers; attempted = r.attempted })

  pub sound_hedged : (hs : List Hash) → length hs ≤ 2 → Sound c (with_hedged hs w)
  sound_hedged hs k = let r = g.races in sound_races _ (record { cold = r.cold; hedged = k; preferred = r.preferred; probe = r.probe; racers = r.racers; attempted = r.attempted })

  pub sound_preferred : (s : Option ℕ) → SoundSource s → Sound c (with_preferred s w)
  sound_preferred s k = let r = g.races in sound_races _ (record { cold = r.cold; hedged = r.hedged; preferred = k; probe = r.probe; racers = r.racers; attempted = r.attempted })

  pub sound_attempted : (s : Option ℕ) → SoundSource s → Sound c (with_attempted s w)
  sound_attempted s k = let r = g.races in sound_races _ (record { cold = r.cold; hedged = r.hedged; preferred = r.preferred; probe = r.probe; racers = r.racers; attempted = k })

  pub sound_probe : (p : Option PrefixProbe) (hs : List Hash) (rs : List ℕ) → SoundProbe c p hs rs → Bounded 256 rs → Sound c (with_probe p hs rs w)
  sound_probe p hs rs k b = let r = g.races in sound_races _ (record { cold = r.cold; hedged = r.hedged; preferred = r.preferred; probe = k; racers = b; attempted = r.attempted })

  pub sound_no_probe : Sound c (without_probe w)
  sound_no_probe = sound_probe None [] no_seats (refl, bounded_none 0) (bounded_none 256)

  pub sound_stall : (x : Option StallEpisode) → SoundStall c x → Sound c (with_stall x w)
  sound_stall x k = let r = g.watch in sound_watch _ (record { stall = k; stuck = r.stuck; observation = r.observation })

  pub sound_stuck : (x : Option StuckFrontier) → SoundStuck c x → Sound c (with_stuck x w)
  sound_stuck x k = let r = g.watch in sound_watch _ (record { stall = r.stall; stuck = k; observation = r.observation })

  pub sound_observation : (x : Observation) → SoundObservation x → Sound c (with_observation x w)
  sound_observation x k = let r = g.watch in sound_watch _ (record { stall = r.stall; stuck = r.stuck; observation = k })

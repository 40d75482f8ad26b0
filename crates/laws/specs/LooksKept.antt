-- What SPECIFICATION 7.16 says keeps a window sound, and lets nothing go. Assumes nothing.
use Rattle.std.proofs.Math.Path.{refl}
use Rattle.std.proofs.Common.{◌∙◌, arith}
use Rattle.std.proofs.Math.Logic.{inl, inr}
use Rattle.std.specs.Prelude.{Bool, cond, ◌&&◌, ◌||◌, ℕ, ◌-◌, ◌≤◌, length, eqb, ltb, None, Some, Option}
use Rattle.std.proofs.Math.Bool.{true, false}
use mathlib.Core.List.{List, [], ◌∷◌}
use Rattle.std.proofs.Math.Dec.{leb}
use Rattle.model.specs.Numbers.{max_height, present}
use Rattle.model.specs.Lists.{select}
use Rattle.model.specs.Hash.{same}
use Rattle.model.specs.Records.{lower, lowest, at_height, found}
use Rattle.model.specs.Time.{active, owner_download_expired}
use Rattle.model.specs.Pace.{effective_stall_timeout, wait_widened}
use Rattle.model.specs.Window.{Window, with_cold, with_stuck, episode}
use Rattle.model.specs.Races.{wait_on, cold_at, is_racing, advance_cold_front, max_hedges}
use Rattle.model.specs.Observation.{Look, stuck_anew, stuck_still, evicted_by, advance_apply_side_stuck, blocks, stalled_since, stall_at, stall_by, advance_stall, still_owned, armed_by, lowest_expired, timeout_by, advance_pending_timeout, Decision, stall_seen, busy_seen, idle_seen, observe_at, observe_blocked, evict_says, none}
use Rattle.model.specs.Races.{Hedge}
use Rattle.model.specs.declared.Hash.{Hash}
use Rattle.model.specs.declared.Entry.{Entry}
use Rattle.model.specs.declared.StallEpisode.{StallEpisode}
use Rattle.model.specs.declared.StuckFrontier.{StuckFrontier}
use Rattle.model.specs.declared.ColdFront.{ColdFront}
use Rattle.model.specs.declared.ColdFront.TheVariants.{Idle, Waiting, Racing}
use Rattle.model.specs.declared.Observation.{Observation}
use Rattle.model.specs.declared.Observation.TheVariants.{Unarmed, Armed, Swept}
use Rattle.laws.specs.Numbers.{both}
use Rattle.laws.specs.Fits.{LowHeight}
use Rattle.laws.specs.Entries.{Each}
use Rattle.laws.specs.Sound.{InRange, SoundCold, SoundStall, SoundStuck, SoundObservation, Sound}
use Rattle.laws.specs.Parts.{sound_cold, sound_pace, sound_stall, sound_stuck, sound_observation}
use Rattle.laws.specs.Lets.{Steady}
use Rattle.laws.specs.PaceKept.{widened_sound}
use Rattle.laws.specs.RacesKept.{unresponsive_steady}

-- ---- a front is one of the entries

abbrev pub FrontIn : ℕ → Option Entry → Type 0
FrontIn c None = Unit {0}
FrontIn c (Some e) = InRange c e

module _ (c : ℕ) where
  lower_in : (e : Entry) (f : Option Entry) → InRange c e → FrontIn c f → FrontIn c (lower e f)
  lower_in e None h k = h
  lower_in e (Some x) h k = elim (both (leb e.height x.height)) [ inl q ↦ rw q h | inr q ↦ rw q k ]

  pub lowest_in : (l : List Entry) → Each (InRange c) l → FrontIn c (lowest l)
  unfolding lowest
  lowest_in [] a = tt
  lowest_in (e ∷ l) a = lower_in e (lowest l) a.0 (lowest_in l a.1)

  pub at_height_in : (n : ℕ) (l : List Entry) → Each (InRange c) l → FrontIn c (at_height n l)
  unfolding at_height
  at_height_in n [] a = tt
  at_height_in n (e ∷ l) a = elim (both (eqb e.height n)) [ inl q ↦ rw q a.0 | inr q ↦ rw q (at_height_in n l a.1) ]

  select_in : (p : Entry → Bool) (l : List Entry) → Each (InRange c) l → Each (InRange c) (select p l)
  unfolding select
  select_in p [] a = tt
  select_in p (e ∷ l) a = elim (both (p e)) [ inl q ↦ rw q (a.0, select_in p l a.1) | inr q ↦ rw q (select_in p l a.1) ]

  -- ---- the stuck frontier

  anew_sound : (height : ℕ) (h : Hash) (busy : Bool) → height ≤ max_height → SoundStuck c (stuck_anew height h busy c)
  unfolding stuck_anew
  anew_sound height h true k = (k, omega arith)
  anew_sound height h false k = tt

  still_sound : (s : Option StuckFrontier) (height : ℕ) (h : Hash) (busy : Bool) → height ≤ max_height → SoundStuck c s → SoundStuck c (stuck_still s height h busy c)
  still_sound None height h busy k g = anew_sound height h busy k
  still_sound (Some s) height h busy k g = elim (both (eqb s.height height && same s.front h)) [ inl q ↦ rw q g | inr q ↦ rw q (anew_sound height h busy k) ]

  evicted_sound : (s : Option StuckFrontier) (h : Hash) (bound : ℕ) → SoundStuck c s → SoundStuck c (evicted_by s h bound c).stuck
  evicted_sound None h bound g = tt
  evicted_sound (Some s) h bound g = elim (both (ltb (c - s.since) bound)) [ inl q ↦ rw q g | inr q ↦ rw q (g.0, omega arith) ]

  pub stuck_sound : (height : ℕ) (s : Option Hash) (busy : Bool) (w : Window) → height ≤ max_height → SoundStuck c w.watch.stuck
      → SoundStuck c (advance_apply_side_stuck height s busy c w).stuck
  stuck_sound height None busy w k g = tt
  stuck_sound height (Some h) true w k g = evicted_sound (stuck_still w.watch.stuck height h true c) h _ (still_sound w.watch.stuck height h true k g)
  stuck_sound height (Some h) false w k g = still_sound w.watch.stuck height h false k g

  -- ---- the cold front

  wait_sound : (x : ColdFront) (e : Entry) (initial : ℕ) → InRange c e → SoundCold c x → SoundCold c (wait_on x e initial c).cold
  wait_sound Idle e initial h g = (h.owner, omega arith)
  wait_sound (Racing owner alternate x) e initial h g = (h.owner, omega arith)
  wait_sound (Waiting owner x since) e initial h g = elim (both (eqb owner e.owner && same x e.hash)) [ inl q ↦ rw q g | inr q ↦ rw q (h.owner, omega arith) ]

  cold_at_sound : (f : Option Entry) (x : ColdFront) (initial : ℕ) → FrontIn c f → SoundCold c x → SoundCold c (cold_at f x initial c).cold
  cold_at_sound None x initial h g = tt
  cold_at_sound (Some e) x initial h g = wait_sound x e initial h g

  pub cold_sound : (next : ℕ) (w : Window) → Sound c w → SoundCold c (advance_cold_front next c w).cold
  unfolding advance_cold_front
  cold_sound next w g = elim (both (is_racing w.races.cold)) [
    | inl q ↦ rw q g.races.cold
    | inr q ↦ elim (both (present w.pace.mean || leb max_hedges (length w.races.hedged))) [
      | inl k ↦ simp (q, k) tt
      | inr k ↦ simp (q, k) (cold_at_sound (at_height next w.queue.pending) w.races.cold w.settings.stall_timeout_initial
          (at_height_in next w.queue.pending g.queue.each) g.races.cold)
    ]
  ]

  -- ---- the stall

  pub since_le : (s : Option StallEpisode) (e : Entry) → SoundStall c s → stalled_since s e c ≤ c
  since_le None e g = omega arith
  since_le (Some s) e g = elim (both (eqb s.owner e.owner && same s.front e.hash)) [ inl q ↦ rw q g.1 | inr q ↦ rw q (omega arith) ]

  stall_at_steady : (e : Entry) (w : Window) → InRange c e → Sound c w → Steady c w (stall_at e c w).window
  unfolding stall_at
  stall_at_steady e w h g =
      let since = stalled_since w.watch.stall e c in
      elim (both (ltb (c - since) (effective_stall_timeout w.settings w.pace))) [
        | inl q ↦ rw q (record { sound = sound_stall g (episode e.owner e.hash since) (h.owner, since_le w.watch.stall e g.watch.stall); same = refl })
        | inr q ↦ rw q (
            let k = sound_pace (sound_stall g None tt) (wait_widened w.settings w.pace) (widened_sound w.settings c w.pace g.settings g.pace) in
            let u = unresponsive_steady e.owner k in
            record { sound = u.sound; same = u.same })
      ]

  stall_by_steady : (f : Option Entry) (next staged : ℕ) (highest : Option ℕ) (w : Window) → FrontIn c f → Sound c w → Steady c w (stall_by f next staged highest c w).window
  stall_by_steady None next staged highest w h g = record { sound = sound_stall g None tt; same = refl }
  stall_by_steady (Some e) next staged highest w h g = elim (both (blocks next staged highest e w)) [
    | inl q ↦ rw q (stall_at_steady e w h g)
    | inr q ↦ rw q (record { sound = sound_stall g None tt; same = refl })
  ]

  pub stall_steady : (next staged : ℕ) (highest : Option ℕ) (w : Window) → Sound c w → Steady c w (advance_stall next staged highest c w).window
  unfolding advance_stall
  stall_steady next staged highest w g = stall_by_steady (lowest w.queue.pending) next staged highest w (lowest_in w.queue.pending g.queue.each) g

  -- ---- the pending timeout

  armed_sound : (f : Option Entry) → FrontIn c f → SoundObservation (armed_by f)
  armed_sound None h = tt
  armed_sound (Some e) h = h.owner

  timeout_by_steady : (o : Observation) (w : Window) → Sound c w → Steady c w (timeout_by o c w).window
  unfolding lowest_expired
  timeout_by_steady Unarmed w g =
      let l = select (λ e. owner_download_expired e.owner (active w) c w) w.queue.pending in
      record { sound = sound_observation g (armed_by (lowest l)) (armed_sound (lowest l) (lowest_in l (select_in _ w.queue.pending g.queue.each))); same = refl }
  timeout_by_steady (Swept owner h) w g = let u = unresponsive_steady owner (sound_observation g Unarmed tt) in record { sound = u.sound; same = u.same }
  timeout_by_steady (Armed owner h) w g = elim (both (still_owned (found h w.queue.pending) owner && owner_download_expired owner (active w) c w)) [
    | inl q ↦ rw q (let u = unresponsive_steady owner (sound_observation g Unarmed tt) in record { sound = u.sound; same = u.same })
    | inr q ↦ rw q (record { sound = sound_observation g Unarmed tt; same = refl })
  ]

  timeout_steady : (w : Window) → Sound c w → Steady c w (advance_pending_timeout c w).window
  unfolding advance_pending_timeout
  timeout_steady w g = timeout_by_steady w.watch.observation w g

  -- ---- the whole look

  stall_seen_steady : (s : Option ℕ) (w : Window) (h : Hedge) → Sound c w → Steady c w (stall_seen s w h c).window
  stall_seen_steady None w h g = timeout_steady w g
  stall_seen_steady (Some owner) w h g = record { sound = g; same = refl }

  busy_steady : (d : Decision) (w : Window) → Sound c w → Steady c w (busy_seen d w).window
  unfolding busy_seen
  busy_steady d w g =
      let k = sound_observation (sound_stall g None tt) Unarmed tt in
      elim (both (is_racing w.races.cold)) [
        | inl q ↦ rw q (record { sound = k; same = refl })
        | inr q ↦ rw q (record { sound = sound_cold k Idle tt; same = refl })
      ]

  idle_steady : (l : Look) (next : ℕ) (w : Window) → Sound c w → Steady c w (idle_seen l next c w).window
  unfolding idle_seen
  idle_steady l next w g =
      let x = advance_cold_front next c w in
      let k = sound_cold g x.cold (cold_sound next w g) in
      let b = advance_stall next l.staged l.highest c (with_cold x.cold w) in
      let t = stall_steady next l.staged l.highest (with_cold x.cold w) k in
      let u = stall_seen_steady b.blamed b.window x.asks t.sound in
      record { sound = u.sound; same = u.same ∙ t.same }

  observe_at_steady : (n : Option ℕ) (l : Look) (w : Window) → LowHeight n → Sound c w → Steady c w (observe_at n l c w).window
  observe_at_steady None l w k g = elim (both l.busy) [ inl q ↦ rw q (busy_steady none w g) | inr q ↦ rw q (timeout_steady w g) ]
  observe_at_steady (Some next) l w k g =
      let s = advance_apply_side_stuck next l.frontier l.busy c w in
      let v = with_stuck s.stuck w in
      let h = sound_stuck g s.stuck (stuck_sound next l.frontier l.busy w k g.watch.stuck) in
      let u = split v l.busy (evict_says next s.evicted) (busy_steady (evict_says next s.evicted) v h) (idle_steady l next v h) in
      record { sound = u.sound; same = u.same }
    where
      split : (v : Window) (b : Bool) (d : Decision) → Steady c v (busy_seen d v).window → Steady c v (idle_seen l next c v).window
          → Steady c v (cond b (busy_seen d v) (idle_seen l next c v)).window
      split v true d x y = x
      split v false d x y = y

pub observe_steady : {c : ℕ} {w : Window} (l : Look) → LowHeight l.next → Sound c w → Steady c w (observe_blocked l c w).window
unfolding observe_blocked
observe_steady {c} {w} l k g = observe_at_steady c l.next l w k g

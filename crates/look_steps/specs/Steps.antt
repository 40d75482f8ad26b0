-- What a step of the look leaves and blames, case by case, and what such steps need of a sound window. Assumes nothing.
use Rattle.std.specs.Prelude.{◌≡◌, true, false, List, ℕ, ◌-◌, ◌≤◌, ltb, get_or, None, Some, Option}
use Rattle.std.proofs.Math.Path.{refl}
use Rattle.std.proofs.Common.{sym, ap, subst, ◌∙◌, arith, leb-true}
use Rattle.model.specs.Numbers.{max_clock, max_duration, max_seat}
use Rattle.model.specs.Records.{lowest}
use Rattle.model.specs.Pace.{effective_stall_timeout, wait_widened}
use Rattle.model.specs.Cooling.{key_of, mark_peer_unresponsive}
use Rattle.model.specs.Layout.{settings_ok, window_of}
use Rattle.model.specs.Window.{Window, with_stall, with_pace, episode}
use Rattle.model.specs.Observation.{Blame, blocks, stalled_since, stall_at, advance_stall, timeout_by, advance_pending_timeout}
use Rattle.model.specs.declared.Entry.{Entry}
use Rattle.model.specs.declared.Settings.{Settings}
use Rattle.model.specs.declared.Observation.{Observation}
use Rattle.model.specs.declared.StuckFrontier.{StuckFrontier}
use Rattle.laws.specs.Every.{hold}
use Rattle.laws.specs.Sound.{Sound, SoundStuck}
use Rattle.laws.specs.Whole.{Holds}
use Rattle.states.specs.Fits.{stuck_fits}

-- the words hold the window that a step leaves, and r is the owner that it blames
pub record Blames (b : Blame) (ws : List ℕ) (r : Option ℕ) : Type 0 where
  pub left : Holds b.window ws
  pub told : r ≡ b.blamed

-- one step after another
pub and_next : {ws ws' : List ℕ} {w : Window} (f : Window → Window) → Holds w ws → Holds (f (window_of ws)) ws' → Holds (f w) ws'
and_next {ws} {ws'} f h k = subst (λ (v : Window). Holds (f v) ws') h.is k

pub sound_in : {c : ℕ} {w : Window} {ws : List ℕ} → Sound c w → Holds w ws → Sound c (window_of ws)
sound_in {c} g h = subst (λ (v : Window). Sound c v) (sym h.is) g

-- the key of a seat is one
pub key_le : {c : ℕ} {w : Window} (s : ℕ) → Sound c w → key_of s w ≤ max_seat
unfolding key_of
key_le s g = g.keys.most s

-- and it stays what it was where the keys do
pub key_on : {v : Window} {ws : List ℕ} (s : ℕ) (w : Window) → Holds v ws → v.keys ≡ w.keys → key_of s w ≤ max_seat → key_of s (window_of ws) ≤ max_seat
unfolding key_of
key_on s w h e k = subst (λ (l : List ℕ). get_or l s 0 ≤ max_seat) (sym (ap (λ (x : Window). x.keys) h.is ∙ e)) k

pub received_le : (b : Settings) → settings_ok b ≡ true → b.received_timeout ≤ max_duration
unfolding settings_ok
received_le b s = leb-true b.received_timeout max_duration (hold _ s 8)

-- what is sound can be written
pub stuck_writes : (c : ℕ) (s : Option StuckFrontier) → c ≤ max_clock → SoundStuck c s → stuck_fits s
stuck_writes c None h g = tt
stuck_writes c (Some s) h g = omega (arith, g.1)

-- ---- the stall, case by case

module _ (e : Entry) (c : ℕ) (w : Window) {ws : List ℕ} {since : ℕ} (p : since ≡ stalled_since w.watch.stall e c) where
  pub stall_goes : ltb (c - since) (effective_stall_timeout w.settings w.pace) ≡ true → Holds (with_stall (episode e.owner e.hash since) w) ws
      → Blames (stall_at e c w) ws None
  unfolding stall_at
  stall_goes q h =
      let q' = rw p at q in
      let h' = rw p at h in
      rw q' (record { left = h'; told = refl })

  pub stall_fires : ltb (c - since) (effective_stall_timeout w.settings w.pace) ≡ false
      → Holds (mark_peer_unresponsive e.owner c (with_pace (wait_widened w.settings w.pace) (with_stall None w))) ws → Blames (stall_at e c w) ws (Some e.owner)
  unfolding stall_at
  stall_fires q h =
      let q' = rw p at q in
      rw q' (record { left = h; told = refl })

module _ (next staged : ℕ) (highest : Option ℕ) (c : ℕ) (w : Window) {ws : List ℕ} where
  pub stall_none : lowest w.queue.pending ≡ None → Holds (with_stall None w) ws → Blames (advance_stall next staged highest c w) ws None
  unfolding advance_stall
  stall_none p h = rw p (record { left = h; told = refl })

  pub stall_free : {e : Entry} → lowest w.queue.pending ≡ Some e → blocks next staged highest e w ≡ false → Holds (with_stall None w) ws
      → Blames (advance_stall next staged highest c w) ws None
  unfolding advance_stall
  stall_free p q h = rw (p, q) (record { left = h; told = refl })

  pub stall_held : {e : Entry} {r : Option ℕ} → lowest w.queue.pending ≡ Some e → blocks next staged highest e w ≡ true → Blames (stall_at e c w) ws r
      → Blames (advance_stall next staged highest c w) ws r
  unfolding advance_stall
  stall_held p q h = rw (p, q) h

-- ---- the pending timeout, by the observation

pub timeout_is : {o : Observation} {ws : List ℕ} {r : Option ℕ} (c : ℕ) (w : Window) → w.watch.observation ≡ o → Blames (timeout_by o c w) ws r
    → Blames (advance_pending_timeout c w) ws r
unfolding advance_pending_timeout
timeout_is {ws = ws} {r} c w e h = subst (λ (x : Observation). Blames (timeout_by x c w) ws r) (sym e) h

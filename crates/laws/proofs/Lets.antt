-- What SPECIFICATION 6.7 says keeps a window sound, and what goes is picked out of the pending entries. Steps run at the clock c of the soundness.
-- Assumes nothing.
use Rattle.std.specs.Prelude.{◌≡◌, refl, Bool, not, ◌&&◌, ◌||◌, List, [], ◌∷◌, ℕ, suc, ◌≤◌, ltb, None, Some, Option}
use Rattle.std.proofs.Common.{inl, inr, arith}
use Rattle.model.specs.Numbers.{present}
use Rattle.model.specs.Lists.{any, count}
use Rattle.model.specs.Hash.{key}
use Rattle.model.specs.Records.{remove}
use Rattle.model.specs.Seats.{reset_owner_queue_start, keep_seats}
use Rattle.model.specs.Time.{effective_owner_timeout, active}
use Rattle.model.specs.Reasons.{lowered, lowers, release}
use Rattle.model.specs.Window.{Window, Queue, queue}
use Rattle.model.specs.LettingGo.{without, take_out, remove_pending, release_pending, lower_to, requeue_for_retry, retire_all, retire_before, gone, kept, total_after, frontier_after, extract, sweep_reason, is_entry, marked_swept, resets, expire_pending, observation_kept, lost_reason, seats_kept, retain_peer_assignments, cold_kept, peer_kept, probe_kept, roles_kept, flagged, retain_owned_by}
use Rattle.model.specs.declared.Hash.{Hash}
use Rattle.model.specs.declared.Entry.{Entry}
use Rattle.model.specs.declared.Release.{Release}
use Rattle.model.specs.declared.ColdFront.{ColdFront}
use Rattle.model.specs.declared.ColdFront.TheVariants.{Idle, Waiting, Racing}
use Rattle.model.specs.declared.PrefixProbe.{PrefixProbe}
use Rattle.model.specs.declared.Observation.{Observation}
use Rattle.model.specs.declared.Observation.TheVariants.{Unarmed, Armed, Swept}
use Rattle.laws.specs.Numbers.{both, lesser_le_first}
use Rattle.laws.specs.Entries.{rising_one, remove_pick, Finding, missing, at, found_is, done, more, sift}
use Rattle.laws.specs.Sound.{Bounded, SoundSource, SoundCold, SoundProbe, SoundObservation, Sound}
use Rattle.laws.specs.Parts.{bounded_keep, sound_frontier, sound_queue, sound_cold, sound_preferred, sound_attempted, sound_probe, sound_no_probe, sound_observation}
use Rattle.laws.specs.Queues.{resets_pending, after_outs, queue_outs, outs_lower, queue_keeps, keeps_lower}
use Rattle.laws.specs.Lets.{Lets, Steady, lets_then, lets_after, steady_lets}

-- ---- one entry

pub lowered_le : (r h f : ℕ) → lowered r h f ≤ f
unfolding lowered
lowered_le r h f = elim (both (lowers r)) [ inl q ↦ rw q (lesser_le_first f h) | inr q ↦ rw q (omega arith) ]

without_is : (c r : ℕ) (e : Entry) (q : Queue) (m : List Entry) → remove e.hash q.pending ≡ m
    → reset_owner_queue_start e.owner e.time c (without e q) ≡ after_outs c (release e r ∷ []) m q
unfolding without resets total_after
without_is c r e q m z = rw z

take_out_lets : {c : ℕ} {w : Window} (h : Hash) (r : ℕ) {f : Option Entry} → Finding h w.queue.pending f → Sound c w → Lets c w (take_out r c f w)
take_out_lets h r (missing z) g = record { sound = g; picks = done }
take_out_lets {c} {w} h r (at {e = e} {m = m} k p) g =
    let q = w.queue in
    let z : remove e.hash q.pending ≡ m = remove_pick (rising_one 0 q.pending (key e.hash) g.queue.rising) p in
    let x = more {g = release e r} p done in
    let is = without_is c r e q m z in
    let low = lowered_le r e.height w.frontier in
    record {
      sound = rw is (sound_frontier (sound_queue g _ (queue_outs x g.queue) (outs_lower c x g.high)) _ (omega (arith, g.frontier)));
      picks = rw (is, resets_pending c (release e r ∷ []) (queue (total_after (release e r ∷ []) q.total) m q.starts q.bodies)) x;
    }

pub remove_lets : {c : ℕ} {w : Window} (h : Hash) (r : ℕ) → Sound c w → Lets c w (remove_pending h r c w)
unfolding remove_pending
remove_lets {w = w} h r g = take_out_lets h r (found_is h w.queue.pending) g

lower_steady : {c : ℕ} (n : Option ℕ) (w : Window) → Sound c w → Steady c w (lower_to n w)
lower_steady None w g = record { sound = g; same = refl }
lower_steady (Some n) w g = record { sound = sound_frontier g _ (omega (arith, lesser_le_first w.frontier n, g.frontier)); same = refl }

pub requeue_lets : {c : ℕ} {w : Window} (h : Hash) (n : Option ℕ) → Sound c w → Lets c w (requeue_for_retry h n c w)
unfolding requeue_for_retry
requeue_lets h n g = lets_after (lower_to n) (remove_lets h 3 g) (lower_steady n)

pub release_lets : {c : ℕ} {w : Window} (h : Hash) → Sound c w → Lets c w (release_pending h c w)
unfolding release_pending
release_lets h g = remove_lets h 4 g

retire_all_lets : {c : ℕ} {w : Window} (es : List Entry) → Sound c w → Lets c w (retire_all es c w)
unfolding retire_all
retire_all_lets [] g = record { sound = g; picks = done }
retire_all_lets {c} (e ∷ es) g = lets_then (retire_all es c) (remove_lets e.hash 5 g) (λ v k. retire_all_lets es k)

pub retire_lets : {c : ℕ} {w : Window} (n : ℕ) → Sound c w → Lets c w (retire_before n c w)
unfolding retire_before
retire_lets n g = retire_all_lets _ g

-- ---- the sweep

frontier_after_le : (gs : List Release) (f : ℕ) → frontier_after gs f ≤ f
unfolding frontier_after
frontier_after_le [] f = omega arith
frontier_after_le (g ∷ gs) f =
    omega (arith, frontier_after_le gs (lowered g.reason g.entry.height f), lowered_le g.reason g.entry.height f)

marked_sound : (gs : List Release) (o : Observation) → SoundObservation o → SoundObservation (marked_swept gs o)
marked_sound gs Unarmed k = k
marked_sound gs (Armed owner h) k = elim (both (any (is_entry owner h) gs)) [ inl q ↦ rw q k | inr q ↦ rw q k ]
marked_sound gs (Swept owner h) k = k

pub expire_lets : {c : ℕ} {w : Window} → Sound c w → Lets c w (expire_pending c w)
unfolding expire_pending extract
expire_lets {c} {w} g =
    let q = w.queue in
    let goes = sweep_reason c (effective_owner_timeout (active w) w) w in
    let gs = gone goes q.pending in
    let m = kept goes q.pending in
    let p = sift goes q.pending in
    let g₁ = sound_queue g _ (queue_outs p g.queue) (outs_lower c p g.high) in
    let g₂ = sound_frontier g₁ (frontier_after gs w.frontier) (omega (arith, frontier_after_le gs w.frontier, g.frontier)) in
    record {
      sound = sound_observation g₂ _ (marked_sound gs w.watch.observation g.watch.observation);
      picks = rw (resets_pending c gs (queue (total_after gs q.total) m q.starts q.bodies)) p;
    }

-- ---- whole seats

observation_kept_sound : (keep : ℕ → Bool) (o : Observation) → SoundObservation o → SoundObservation (observation_kept keep o)
observation_kept_sound keep Unarmed k = k
observation_kept_sound keep (Armed owner h) k = elim (both (keep owner)) [ inl q ↦ rw q k | inr q ↦ rw q tt ]
observation_kept_sound keep (Swept owner h) k = elim (both (keep owner)) [ inl q ↦ rw q k | inr q ↦ rw q tt ]

pub retain_lets : {c : ℕ} {w : Window} (keep : ℕ → Bool) (r : ℕ) → Sound c w → Lets c w (retain_peer_assignments keep (suc r) w)
unfolding retain_peer_assignments extract seats_kept
retain_lets {c} {w} keep r g =
    let gs = gone (lost_reason keep (suc r)) w.queue.pending in
    let g₁ = sound_queue g _ (queue_keeps keep r g.queue) (keeps_lower keep r g.high) in
    let g₂ = sound_frontier g₁ (frontier_after gs w.frontier) (omega (arith, frontier_after_le gs w.frontier, g.frontier)) in
    record {
      sound = sound_observation g₂ _ (observation_kept_sound keep w.watch.observation g.watch.observation);
      picks = sift (lost_reason keep (suc r)) w.queue.pending;
    }

module _ (c : ℕ) (owns : ℕ → Bool) where
  cold_kept_sound : (x : ColdFront) → SoundCold c x → SoundCold c (cold_kept owns x)
  cold_kept_sound Idle k = k
  cold_kept_sound (Waiting owner h since) k = elim (both (owns owner)) [ inl q ↦ rw q k | inr q ↦ rw q tt ]
  cold_kept_sound (Racing owner alternate h) k = elim (both (owns owner && owns alternate)) [ inl q ↦ rw q k | inr q ↦ rw q tt ]

  peer_kept_sound : (s : Option ℕ) → SoundSource s → SoundSource (peer_kept owns s)
  peer_kept_sound None k = k
  peer_kept_sound (Some s) k = elim (both (owns s)) [ inl q ↦ rw q k | inr q ↦ rw q tt ]

  probe_kept_steady : (p : Option PrefixProbe) (rs : List ℕ) (v : Window) → SoundProbe c p v.races.planned v.races.racers → Bounded 256 rs → Sound c v → Steady c v (probe_kept owns p rs v)
  probe_kept_steady None rs v k b g = record { sound = g; same = refl }
  probe_kept_steady (Some p) rs v k b g = elim (both (not (owns p.owner) || ltb (count present rs) 2)) [
    | inl q ↦ rw q (record { sound = sound_no_probe g; same = refl })
    | inr q ↦ rw q (record { sound = sound_probe g (Some p) v.races.planned rs k b; same = refl })
  ]

  roles_steady : {w : Window} → Sound c w → Steady c w (roles_kept owns w)
  unfolding roles_kept
  roles_steady {w} g =
      let g₁ = sound_cold g (cold_kept owns w.races.cold) (cold_kept_sound w.races.cold g.races.cold) in
      let g₂ = sound_preferred g₁ (peer_kept owns w.races.preferred) (peer_kept_sound w.races.preferred g.races.preferred) in
      let g₃ = sound_attempted g₂ (peer_kept owns w.races.attempted) (peer_kept_sound w.races.attempted g.races.attempted) in
      let s = probe_kept_steady w.races.probe (keep_seats owns 0 w.races.racers) _ g.races.probe (bounded_keep owns g.races.racers) g₃ in
      record { sound = s.sound; same = s.same }

pub retain_owned_lets : {c : ℕ} {w : Window} (flags : List ℕ) → Sound c w → Lets c w (retain_owned_by flags w)
unfolding retain_owned_by
retain_owned_lets {c} flags g = let s = roles_steady c (flagged flags) g in steady_lets s (retain_lets (flagged flags) 7 s.sound)

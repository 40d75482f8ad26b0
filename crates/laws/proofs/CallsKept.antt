-- Deliveries and rejections (SPECIFICATION 7) keep a window sound. Assumes nothing.
use Rattle.std.specs.Prelude.{refl, ◌&&◌, ◌||◌, ℕ, suc, ◌+◌, ◌*◌, ◌/◌, ◌≤◌, eqb, None, Some, Option}
use Rattle.std.proofs.Common.{inl, inr, arith}
use Rattle.model.specs.Numbers.{max_body, min_estimate, max_estimate}
use Rattle.model.specs.Hash.{same}
use Rattle.model.specs.Records.{found}
use Rattle.model.specs.Pace.{was_front}
use Rattle.model.specs.Window.{Window, with_mean}
use Rattle.model.specs.Races.{record_prefix_probe_delivery}
use Rattle.model.specs.Calls.{unless_stalled, record_delivery_progress, progress_by, body_noted, credit_delivery_from, height_of, credit_by, next_mean, mark_received_from, unless_front, is_owner, rejected_by, reject_delivery}
use Rattle.model.specs.declared.Hash.{Hash}
use Rattle.model.specs.declared.StallEpisode.{StallEpisode}
use Rattle.model.specs.declared.ColdFront.{ColdFront}
use Rattle.model.specs.declared.ColdFront.TheVariants.{Idle, Waiting, Racing}
use Rattle.laws.specs.Numbers.{both, second_le_greater, greater_le}
use Rattle.laws.specs.Sound.{SoundCold, SoundStall, Sound}
use Rattle.laws.specs.Parts.{bounded_set, sound_mean, sound_queue, sound_cold, sound_pace, sound_stall}
use Rattle.laws.specs.Lets.{Lets, Steady, lets_stay, lets_then, lets_after, steady_lets, steady_then}
use Rattle.laws.proofs.Lets.{remove_lets}
use Rattle.laws.proofs.RacesKept.{probe_lets, resolve_lets}
use Rattle.laws.specs.PaceKept.{recorded_sound}
use Rattle.laws.specs.CallsKept.{duplicate_steady}

stalled_sound : (c : ℕ) (h : Hash) (source : ℕ) (s : Option StallEpisode) → SoundStall c s → SoundStall c (unless_stalled h source s)
stalled_sound c h source None k = k
stalled_sound c h source (Some s) k = elim (both (eqb s.owner source || same s.front h)) [ inl q ↦ rw q tt | inr q ↦ rw q k ]

progress_steady : {c : ℕ} {w : Window} (source : ℕ) (h : Hash) (height : ℕ) → Sound c w → Steady c w (record_delivery_progress source h height c w)
unfolding record_delivery_progress
progress_steady {c} {w} source h height g =
    let k = sound_stall g (unless_stalled h source w.watch.stall) (stalled_sound c h source w.watch.stall g.watch.stall) in
    elim (both (was_front height w.queue.pending)) [
      | inl q ↦ rw q (record { sound = sound_pace k _ (recorded_sound w.settings c w.pace g.settings g.clock g.pace); same = refl })
      | inr q ↦ rw q (record { sound = k; same = refl })
    ]

progress_by_steady : {c : ℕ} {w : Window} (n : Option ℕ) (source : ℕ) (h : Hash) → Sound c w → Steady c w (progress_by n source h c w)
progress_by_steady None source h g = record { sound = g; same = refl }
progress_by_steady (Some n) source h g = progress_steady source h n g

body_steady : {c : ℕ} {w : Window} (source : ℕ) → Sound c w → Steady c w (body_noted source c w)
unfolding body_noted
body_steady {c} {w} source g =
    let h = g.queue in
    record {
      sound = sound_queue g _ (record {
        rising = h.rising;
        few = h.few;
        each = h.each;
        total = h.total;
        seats = h.seats;
        starts = h.starts;
        bodies = bounded_set source (suc c) (omega arith) h.bodies;
      }) (record { blocks = g.high.blocks; bytes = g.high.bytes });
      same = refl;
    }

pub credit_lets : {c : ℕ} {w : Window} (h : Hash) (source : ℕ) (n : Option ℕ) → Sound c w → Lets c w (credit_delivery_from h source n c w)
unfolding credit_delivery_from
credit_lets {c} h source n g =
    let s = body_steady source g in
    let t = steady_then s (duplicate_steady h source s.sound) in
    lets_after (progress_by n source h c) (lets_then (record_prefix_probe_delivery h source c) (steady_lets t (resolve_lets h source t.sound)) (λ v k. probe_lets h source k))
    (λ v k. progress_by_steady n source h k)

credit_by_lets : {c : ℕ} {w : Window} (s : Option ℕ) (h : Hash) (n : Option ℕ) → Sound c w → Lets c w (credit_by s h n c w)
credit_by_lets None h n g = lets_stay (record { sound = g; same = refl })
credit_by_lets (Some source) h n g = credit_lets h source n g

next_mean_le : (mean bytes : ℕ) → mean ≤ max_estimate → bytes ≤ max_body → next_mean mean bytes ≤ max_estimate
unfolding next_mean
next_mean_le mean bytes h k = greater_le ((mean * 7 + bytes) / 8) min_estimate max_estimate (omega arith) (omega arith)

next_mean_ge : (mean bytes : ℕ) → min_estimate ≤ next_mean mean bytes
unfolding next_mean
next_mean_ge mean bytes = second_le_greater ((mean * 7 + bytes) / 8) min_estimate

pub received_lets : {c : ℕ} {w : Window} (h : Hash) (bytes : ℕ) (source : Option ℕ) → bytes ≤ max_body → Sound c w → Lets c w (mark_received_from h bytes source c w)
unfolding mark_received_from
received_lets {c} {w} h bytes source b g =
    let n = height_of (found h w.queue.pending) in
    lets_after (λ v. with_mean (next_mean v.mean bytes) v) (lets_then (credit_by source h n c) (remove_lets h 1 g) (λ v k. credit_by_lets source h n k))
    (λ v k. record { sound = sound_mean k _ (next_mean_ge v.mean bytes) (next_mean_le v.mean bytes k.mean_most b); same = refl })

-- ---- rejections

front_sound : (c : ℕ) (h : Hash) (source : ℕ) (x : ColdFront) → SoundCold c x → SoundCold c (unless_front h source x)
front_sound c h source Idle k = k
front_sound c h source (Waiting owner x since) k = elim (both (same x h && eqb owner source)) [ inl q ↦ rw q tt | inr q ↦ rw q k ]
front_sound c h source (Racing owner alternate x) k = elim (both (same x h && (eqb source owner || eqb source alternate))) [ inl q ↦ rw q tt | inr q ↦ rw q k ]

rejected_steady : {c : ℕ} {w : Window} (s : Option ℕ) (h : Hash) → Sound c w → Steady c w (rejected_by s h w)
rejected_steady None h g = record { sound = g; same = refl }
rejected_steady {c} {w} (Some s) h g =
    let t = duplicate_steady h s g in
    record { sound = sound_cold t.sound _ (front_sound c h s w.races.cold g.races.cold); same = t.same }

pub reject_lets : {c : ℕ} {w : Window} (h : Hash) (s : Option ℕ) → Sound c w → Lets c w (reject_delivery h s c w)
unfolding reject_delivery
reject_lets {c} {w} h s g =
    let t = rejected_steady s h g in
    elim (both (is_owner s (found h (rejected_by s h w).queue.pending))) [
      | inl q ↦ rw q (steady_lets t (remove_lets h 2 t.sound))
      | inr q ↦ rw q (lets_stay t)
    ]

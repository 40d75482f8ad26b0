-- The smaller calls (SPECIFICATION 7), and a duplicate delivery, keep a window sound; and so does an opening. Assumes nothing.
use Rattle.std.specs.Prelude.{◌≡◌, refl, true, ◌&&◌, List, ℕ, suc, ◌≤◌, eqb, None}
use Rattle.std.proofs.Common.{inl, inr, arith}
use Rattle.model.specs.Numbers.{max_clock, max_seat}
use Rattle.model.specs.Hash.{same}
use Rattle.model.specs.Records.{sum}
use Rattle.model.specs.Seats.{oldest}
use Rattle.model.specs.Layout.{settings_ok}
use Rattle.model.specs.Window.{Window}
use Rattle.model.specs.Calls.{opened, unless_observed, credit_duplicate_delivery, engages, set_fanout_eligible_peers, clear_preferred_peer}
use Rattle.model.specs.declared.Hash.{Hash}
use Rattle.model.specs.declared.Settings.{Settings}
use Rattle.model.specs.declared.Observation.{Observation}
use Rattle.model.specs.declared.Observation.TheVariants.{Unarmed, Armed, Swept}
use Rattle.laws.specs.Numbers.{both}
use Rattle.laws.specs.Sound.{Bounded, SoundObservation, Sound}
use Rattle.laws.specs.Parts.{bounded_none, no_seats_at, sound_fanout, sound_preferred, sound_no_probe, sound_observation}
use Rattle.laws.specs.Lets.{Steady}
use Rattle.laws.specs.PaceKept.{opened_pace}

-- ---- an opening

pub opened_sound : (c : ℕ) (b : Settings) (keys : List ℕ) → c ≤ max_clock → settings_ok b ≡ true → Bounded max_seat keys → Sound c (opened c b keys)
unfolding opened oldest sum
opened_sound c b keys h s k = record {
  clock = h;
  settings = s;
  keys = k;
  mean_least = omega arith;
  mean_most = omega arith;
  frontier = omega arith;
  high = record { blocks = omega arith; bytes = omega arith };
  queue = record {
    rising = tt;
    few = omega arith;
    each = tt;
    total = refl;
    seats = (bounded_none 0).places;
    starts = λ i j. rw (no_seats_at i) (record { none = λ z. refl; above = omega arith; below = omega arith });
    bodies = bounded_none (suc c);
  };
  cooling = bounded_none (suc c);
  pace = opened_pace b c s;
  races = record { cold = tt; hedged = omega arith; preferred = tt; probe = (refl, bounded_none 0); racers = bounded_none 256; attempted = tt };
  watch = record { stall = tt; stuck = tt; observation = tt };
}

-- ---- deliveries

observed_sound : (h : Hash) (source : ℕ) (o : Observation) → SoundObservation o → SoundObservation (unless_observed h source o)
observed_sound h source Unarmed k = k
observed_sound h source (Armed owner x) k = elim (both (same x h && eqb owner source)) [ inl q ↦ rw q tt | inr q ↦ rw q k ]
observed_sound h source (Swept owner x) k = elim (both (same x h && eqb owner source)) [ inl q ↦ rw q tt | inr q ↦ rw q k ]

pub duplicate_steady : {c : ℕ} {w : Window} (h : Hash) (source : ℕ) → Sound c w → Steady c w (credit_duplicate_delivery h source w)
unfolding credit_duplicate_delivery
duplicate_steady {w = w} h source g = record { sound = sound_observation g _ (observed_sound h source w.watch.observation g.watch.observation); same = refl }

-- ---- the smaller calls

pub fanout_steady : {c : ℕ} {w : Window} (n : ℕ) → Sound c w → Steady c w (set_fanout_eligible_peers n c w)
unfolding set_fanout_eligible_peers
fanout_steady {c} {w} n g =
    let k = sound_fanout g (record { eligible = n; engaged = engages n c w }) in
    elim (both (engages n c w)) [
      | inl q ↦ rw q (record { sound = rw q at (sound_no_probe k); same = refl })
      | inr q ↦ rw q (record { sound = rw q at k; same = refl })
    ]

pub preferred_steady : {c : ℕ} {w : Window} → Sound c w → Steady c w (clear_preferred_peer w)
unfolding clear_preferred_peer
preferred_steady g = record { sound = sound_preferred g None tt; same = refl }

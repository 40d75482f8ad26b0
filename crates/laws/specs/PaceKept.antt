-- The pace stays in its ranges. Assumes nothing.
use Rattle.std.specs.Prelude.{◌≡◌, true, ℕ, zero, suc, ◌-◌, ◌*◌, ◌/◌, ◌≤◌, ltb, leb}
use Rattle.std.proofs.Common.{inl, inr, arith, div-le_self, leb-true}
use Rattle.model.specs.Numbers.{max_clock, max_duration, max_front_mean, greater}
use Rattle.model.specs.Pace.{sample_ms, nearer, mean_by, front_mean_by, front_mean, min_sample, twice_ns, decay_floor, decayed, front_recorded, effective_stall_timeout, wait_widened, pace_opened}
use Rattle.model.specs.Layout.{settings_ok}
use Rattle.model.specs.declared.Pace.{Pace}
use Rattle.model.specs.declared.Settings.{Settings}
use Rattle.laws.specs.Numbers.{both, lesser_le_second, greater_le, age_le}
use Rattle.laws.specs.Every.{initial_le, most_le}
use Rattle.laws.specs.Sound.{SoundPace}

pub nearer_le : (m sample b : ℕ) → m ≤ b → sample ≤ b → nearer m sample ≤ b
unfolding nearer
nearer_le m sample b h k = elim (both (leb m sample)) [
  | inl q ↦ rw q (omega (arith, div-le_self (sample - m) 4, leb-true m sample q))
  | inr q ↦ rw q (omega arith)
]

-- a sample since a stored time is at most the greatest front mean
pub sample_le : (now advance : ℕ) → now ≤ max_clock → (advance ≡ 0 → ⊥) → sample_ms now advance ≤ max_front_mean
unfolding sample_ms
sample_le now advance h n = let a = age_le now advance n in omega arith

mean_by_le : (mean sample : ℕ) → mean ≤ suc max_front_mean → sample ≤ max_front_mean → mean_by mean sample ≤ suc max_front_mean
mean_by_le zero sample h k = omega arith
mean_by_le (suc m) sample h k = omega (arith, nearer_le m sample max_front_mean (omega arith) k)

front_mean_by_le : (mean sample : ℕ) → mean ≤ suc max_front_mean → sample ≤ max_front_mean → front_mean_by mean sample ≤ suc max_front_mean
unfolding front_mean_by
front_mean_by_le mean sample h k = elim (both (ltb sample min_sample)) [ inl q ↦ rw q h | inr q ↦ rw q (mean_by_le mean sample h k) ]

pub front_mean_le : (now advance mean : ℕ) → now ≤ max_clock → mean ≤ suc max_front_mean → front_mean now advance mean ≤ suc max_front_mean
front_mean_le now zero mean h k = k
front_mean_le now (suc t) mean h k = front_mean_by_le mean (sample_ms now (suc t)) k (sample_le now (suc t) h (λ e. omega arith))

pub floor_le : (initial most mean bound : ℕ) → most ≤ bound → decay_floor initial most mean ≤ bound
unfolding decay_floor
floor_le initial most mean bound h = omega (arith, lesser_le_second (greater (twice_ns mean) initial) most)

decayed_le : (wait floor : ℕ) → wait ≤ max_duration → floor ≤ max_duration → decayed wait floor ≤ max_duration
unfolding decayed
decayed_le wait floor h k = greater_le (wait * 85 / 100) floor max_duration (omega arith) k

pub recorded_sound : (b : Settings) (c : ℕ) (p : Pace) → settings_ok b ≡ true → c ≤ max_clock → SoundPace c p → SoundPace c (front_recorded b c p)
unfolding front_recorded
recorded_sound b c p s h k = record {
  mean = front_mean_le c p.advance p.mean h k.mean;
  advance = omega arith;
  wait = decayed_le p.wait _ k.wait (floor_le b.stall_timeout_initial b.stall_timeout_max _ max_duration (most_le b s));
}

pub widened_sound : (b : Settings) (c : ℕ) (p : Pace) → settings_ok b ≡ true → SoundPace c p → SoundPace c (wait_widened b p)
unfolding wait_widened
widened_sound b c p s k = record {
  mean = k.mean;
  advance = k.advance;
  wait = omega (arith, lesser_le_second (effective_stall_timeout b p * 2) b.stall_timeout_max, most_le b s);
}

pub opened_pace : (b : Settings) (c : ℕ) → settings_ok b ≡ true → SoundPace c (pace_opened b)
unfolding pace_opened
opened_pace b c s = record { mean = omega arith; advance = omega arith; wait = initial_le b s }

-- The definitions that go by cases on a stored value, where it is there: in the code's terms; the wait's bound. Assumes nothing.
use Rattle.std.specs.Prelude.{◌≡◌, refl, ℕ, zero, suc, ◌+◌, ◌-◌, ◌*◌, ◌≤◌}
use Rattle.std.proofs.Common.{ap, arith}
use Rattle.model.specs.declared.Pace.{Pace}
use Rattle.model.specs.declared.Settings.{Settings}
use Rattle.model.specs.Pace.{nearer, mean_by, front_mean_by, front_mean, sample_ms, twice_ns, stall_decay_floor, effective_stall_timeout}
use Rattle.laws.specs.Numbers.{greater_le}
use Rattle.laws.specs.PaceKept.{floor_le}

pub mean_by_some : (mean sample : ℕ) → (mean ≡ 0 → ⊥) → mean_by mean sample ≡ nearer (mean - 1) sample + 1
mean_by_some zero sample n = absurd (n refl)
mean_by_some (suc m) sample n =
    let e : m ≡ suc m - 1 = omega arith in
    let f = ap (λ (k : ℕ). nearer k sample) e in
    omega arith

pub front_mean_some : (now advance mean : ℕ) → (advance ≡ 0 → ⊥) → front_mean now advance mean ≡ front_mean_by mean (sample_ms now advance)
front_mean_some now zero mean n = absurd (n refl)
front_mean_some now (suc t) mean n = refl

pub twice_ns_some : (mean : ℕ) → (mean ≡ 0 → ⊥) → twice_ns mean ≡ (mean - 1) * 2 * 1000000
twice_ns_some zero n = absurd (n refl)
twice_ns_some (suc m) n = omega arith

pub effective_stall_timeout_le : (b : Settings) (p : Pace) (most : ℕ) → p.wait ≤ most → b.stall_timeout_max ≤ most → effective_stall_timeout b p ≤ most
unfolding effective_stall_timeout stall_decay_floor
effective_stall_timeout_le b p most h k = greater_le p.wait _ most h (floor_le b.stall_timeout_initial b.stall_timeout_max p.mean most k)

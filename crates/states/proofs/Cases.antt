-- What the definitions read from a word that is not 0. Assumes nothing.
use mathlib.Core.Path.{◌≡◌, refl, ap}
use Prim.Native.Nat.{ℕ, zero, suc, ◌-◌}
use native.Mathlib.Omega.{arith}
use Rattle.model.specs.Window.{episode, stuck_at, probing}
use Rattle.model.specs.Layout.{stall_of, stuck_of, cold_of, observation_of, probe_of}
use Rattle.model.specs.declared.Hash.{Hash}
use Rattle.model.specs.declared.ColdFront.TheVariants.{Racing}
use Rattle.model.specs.declared.Observation.TheVariants.{Swept}

back : (n : ℕ) → suc n - 1 ≡ n
back n = omega arith

pub stall_some : (s owner : ℕ) (h : Hash) → (s ≡ 0 → ⊥) → episode owner h (s - 1) ≡ stall_of s owner h
stall_some zero owner h n = absurd (n refl)
stall_some (suc s) owner h n = ap (episode owner h) (back s)

pub stuck_some : (s height : ℕ) (h : Hash) → (s ≡ 0 → ⊥) → stuck_at height h (s - 1) ≡ stuck_of s height h
stuck_some zero height h n = absurd (n refl)
stuck_some (suc s) height h n = ap (stuck_at height h) (back s)

pub probe_some : (s owner accepted : ℕ) → (s ≡ 0 → ⊥) → probing owner accepted (s - 1) ≡ probe_of s owner accepted
probe_some zero owner accepted n = absurd (n refl)
probe_some (suc s) owner accepted n = ap (probing owner accepted) (back s)

pub cold_race : (k owner x : ℕ) (h : Hash) → (k ≡ 0 → ⊥) → (k ≡ 1 → ⊥) → Racing owner x h ≡ cold_of k owner x h
cold_race zero owner x h n m = absurd (n refl)
cold_race (suc zero) owner x h n m = absurd (m refl)
cold_race (suc (suc k)) owner x h n m = refl

pub swept_some : (k owner : ℕ) (h : Hash) → (k ≡ 0 → ⊥) → (k ≡ 1 → ⊥) → Swept owner h ≡ observation_of k owner h
swept_some zero owner h n m = absurd (n refl)
swept_some (suc zero) owner h n m = absurd (m refl)
swept_some (suc (suc k)) owner h n m = refl

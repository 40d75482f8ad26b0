-- What a sound window grants to the steps of a delivery. Assumes nothing.
use Rattle.std.specs.Prelude.{◌≡◌, Bool, true, false, cond, not, ◌&&◌, ◌||◌, ℕ, suc, ◌≤◌, eqb, leb, ltb, None, Some, Option}
use Rattle.std.proofs.Common.{◌∙◌, inl, inr, arith}
use Rattle.model.specs.Hash.{same}
use Rattle.model.specs.Window.{Window}
use Rattle.model.specs.Calls.{unless_stalled, unless_front, is_young, engages}
use Rattle.model.specs.declared.Hash.{Hash}
use Rattle.model.specs.declared.Settings.{Settings}
use Rattle.model.specs.declared.Fanout.{Fanout}
use Rattle.model.specs.declared.PrefixProbe.{PrefixProbe}
use Rattle.model.specs.declared.StallEpisode.{StallEpisode}
use Rattle.model.specs.declared.ColdFront.{ColdFront}
use Rattle.model.specs.declared.ColdFront.TheVariants.{Idle, Waiting, Racing}
use Rattle.model.specs.Numbers.{max_clock}
use Rattle.laws.specs.Numbers.{both}
use Rattle.laws.specs.Sound.{SoundStall, SoundCold}
use Rattle.states.specs.Fits.{stall_fits, cold_fits}

-- ---- times that can be written

pub stall_writes : (c : ℕ) (s : Option StallEpisode) → c ≤ max_clock → SoundStall c s → stall_fits s
stall_writes c None h k = tt
stall_writes c (Some s) h k = omega (arith, k.1)

pub cold_writes : (c : ℕ) (x : ColdFront) → c ≤ max_clock → SoundCold c x → cold_fits x
cold_writes c Idle h k = tt
cold_writes c (Waiting owner g since) h k = omega (arith, k.1)
cold_writes c (Racing owner alternate g) h k = tt

pub stalled_writes : (h : Hash) (source : ℕ) (s : Option StallEpisode) → stall_fits s → stall_fits (unless_stalled h source s)
stalled_writes h source None k = k
stalled_writes h source (Some s) k = elim (both (eqb s.owner source || same s.front h)) [ inl q ↦ rw q tt | inr q ↦ rw q k ]

pub front_writes : (h : Hash) (source : ℕ) (x : ColdFront) → cold_fits x → cold_fits (unless_front h source x)
front_writes h source Idle k = k
front_writes h source (Waiting owner g since) k = elim (both (same g h && eqb owner source)) [ inl q ↦ rw q tt | inr q ↦ rw q k ]
front_writes h source (Racing owner alternate g) k = elim (both (same g h && (eqb source owner || eqb source alternate))) [ inl q ↦ rw q tt | inr q ↦ rw q k ]

-- ---- `engages` on what was read

pub engaged_so : (w : Window) (n now : ℕ) {r : Bool} {b : Settings} {f : Fanout} {p : Option PrefixProbe}
    → r ≡ cond (leb b.min_peers_for_fanout n && not (is_young p b.stall_timeout_initial now)) true (cond (ltb (suc n) b.min_peers_for_fanout) false f.engaged)
    → b ≡ w.settings → f ≡ w.fanout → p ≡ w.races.probe → r ≡ engages n now w
unfolding engages
engaged_so w n now {r} {b} {f} {p} e x y z =
    e ∙ (λ i. cond (leb (x i).min_peers_for_fanout n && not (is_young (z i) (x i).stall_timeout_initial now)) true (cond (ltb (suc n) (x i).min_peers_for_fanout) false (y i).engaged))

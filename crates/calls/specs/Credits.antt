-- A credit lets go once: where the cold front's hedge let go, no race is left, so the race's releases stand alone or not at all. Assumes nothing.
use Rattle.std.specs.Prelude.{◌≡◌, refl, ◌⊎◌, ℕ, suc, eqb, None, Option}
use Rattle.std.proofs.Math.Path.{ap}
use Rattle.std.proofs.Common.{◌∙◌, arith}
use Rattle.std.proofs.Math.Logic.{inl, inr}
use mathlib.Core.List.{List, [], ◌∷◌, ◌++◌, append-nil}
use Rattle.model.specs.Hash.{same}
use Rattle.model.specs.Cooling.{mark_peer_unresponsive}
use Rattle.model.specs.LettingGo.{extract, seats_kept, retain_peer_assignments}
use Rattle.model.specs.Races.{hedge_lost, resolve_by, resolve_cold_front_delivery, probe_delivery, record_prefix_probe_delivery}
use Rattle.model.specs.Calls.{body_noted, credit_duplicate_delivery}
use Rattle.model.specs.Window.{Window, Step, stay, and_then}
use Rattle.model.specs.declared.Hash.{Hash}
use Rattle.model.specs.declared.Release.{Release}
use Rattle.model.specs.declared.ColdFront.{ColdFront}
use Rattle.model.specs.declared.ColdFront.TheVariants.{Idle, Waiting, Racing}
use Rattle.model.specs.declared.PrefixProbe.{PrefixProbe}
use Rattle.laws.specs.Numbers.{both}
use Rattle.laws.specs.Sound.{Sound}
use Rattle.laws.specs.Parts.{bounded_set, sound_queue}
use Rattle.laws.specs.CallsKept.{duplicate_steady}

-- nothing went, or no probe is left
abbrev Quiet : Step → Type 0
Quiet s = (s.gone ≡ []) ⊎ (s.window.races.probe ≡ None)

lost_quiet : (owner alternate now : ℕ) (w : Window) → (hedge_lost owner alternate now w).window.races.probe ≡ None
unfolding hedge_lost retain_peer_assignments extract seats_kept mark_peer_unresponsive
lost_quiet owner alternate now w = refl

resolve_quiet : (x : ColdFront) (h : Hash) (source now : ℕ) (w : Window) → Quiet (resolve_by x h source now w)
resolve_quiet Idle h source now w = inl refl
resolve_quiet (Waiting owner front since) h source now w = inl refl
resolve_quiet (Racing owner alternate front) h source now w = elim (both (same front h)) [
  | inl q ↦ elim (both (eqb source alternate)) [ inl r ↦ simp (q, r) (inr (lost_quiet owner alternate now _)) | inr r ↦ simp (q, r) (inl refl) ]
  | inr q ↦ rw q (inl refl)
]

module _ (h : Hash) (source now : ℕ) (w : Window) where
  abbrev resolved : Step
  resolved = resolve_cold_front_delivery h source now w

  abbrev races : Window → Step
  races v = record_prefix_probe_delivery h source now v

  pub resolved_none : resolved.gone ≡ [] → and_then resolved races ≡ races resolved.window
  resolved_none e = λ i. record { window = (races resolved.window).window; gone = e i ++ (races resolved.window).gone }

  pub resolved_some : (resolved.gone ≡ [] → ⊥) → and_then resolved races ≡ resolved
  unfolding resolve_cold_front_delivery record_prefix_probe_delivery
  resolved_some n = elim (resolve_quiet w.races.cold h source now w) [
    | inl e ↦ absurd (n e)
    | inr e ↦
        let q : races resolved.window ≡ stay resolved.window = ap (λ (p : Option PrefixProbe). probe_delivery p h source now resolved.window) e in
        (λ i. record { window = (q i).window; gone = resolved.gone ++ (q i).gone }) ∙ (λ i. record { window = resolved.window; gone = append-nil resolved.gone i })
  ]

noted_sound : {c : ℕ} {w : Window} (source : ℕ) → Sound c w → Sound c (body_noted source c w)
unfolding body_noted
noted_sound {c} {w} source g =
    let q = g.queue in
    sound_queue g _ (record {
      rising = q.rising;
      few = q.few;
      each = q.each;
      total = q.total;
      seats = q.seats;
      starts = q.starts;
      bodies = bounded_set source (suc c) (omega arith) q.bodies;
    }) (record { blocks = g.high.blocks; bytes = g.high.bytes })

-- what a credit does before the races keeps a window sound
pub begun_sound : {c : ℕ} {w : Window} (h : Hash) (source : ℕ) → Sound c w → Sound c (credit_duplicate_delivery h source (body_noted source c w))
begun_sound h source g = (duplicate_steady h source (noted_sound source g)).sound

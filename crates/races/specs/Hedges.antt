-- What a delivery does to the cold front, and a lost hedge step by step. Assumes nothing.
use Rattle.std.specs.Prelude.{◌≡◌, refl, Bool, true, false, cond, not, List, [], ℕ, ◌≤◌, ◌<◌, set, replicate, eqb, Some}
use Rattle.std.proofs.Common.{sym, ◌∙◌, subst, arith}
use Rattle.std.proofs.Math.Path.{ap}
use Rattle.model.specs.Hash.{same}
use Rattle.model.specs.Layout.{window_of}
use Rattle.model.specs.LettingGo.{flagged, extract, seats_kept, retain_peer_assignments}
use Rattle.model.specs.Numbers.{max_seat}
use Rattle.model.specs.Cooling.{key_of, mark_peer_unresponsive}
use Rattle.model.specs.Window.{Window, Step, stay, with_cold, with_preferred, without_probe}
use Rattle.model.specs.Races.{hedge_lost, resolve_by, resolve_cold_front_delivery}
use Rattle.model.specs.declared.Hash.{Hash}
use Rattle.model.specs.declared.Release.{Release}
use Rattle.model.specs.declared.ColdFront.{ColdFront}
use Rattle.model.specs.declared.ColdFront.TheVariants.{Idle, Waiting, Racing}
use Rattle.laws.specs.Sound.{Sound, SoundCold}
use Rattle.laws.specs.Parts.{sound_no_probe}
use Rattle.laws.specs.Pending.{Ranged, sound_ranged}
use Rattle.races.specs.Flags.{retain_same, all_but}
use Rattle.races.specs.declared.Resolution.{Resolution}
use Rattle.races.specs.declared.Resolution.TheVariants.{Stays, Ends, Loses}

-- the step of a resolution
abbrev pub resolved : Resolution → ℕ → Window → Step
resolved Stays clock w = stay w
resolved Ends clock w = stay (with_cold Idle w)
resolved (Loses owner alternate) clock w = hedge_lost owner alternate clock (with_cold Idle w)

-- its seats are seats
abbrev pub Seated : Resolution → Type 0
Seated Stays = Unit {0}
Seated Ends = Unit {0}
Seated (Loses owner alternate) = (owner < 256) × (alternate < 256)

-- a lost hedge: the windows after each of its steps
module _ (clock owner alternate : ℕ) (w w₁ w₂ : Window) (s : Sound clock w) (h : owner < 256) (e₁ : w₁ ≡ without_probe w)
    (e₂ : w₂ ≡ (retain_peer_assignments (flagged (set (replicate 256 1) owner 0)) 10 w₁).window) where
  but_one : retain_peer_assignments (flagged (set (replicate 256 1) owner 0)) 10 w₁ ≡ retain_peer_assignments (λ t. not (eqb t owner)) 10 (without_probe w)
  but_one = rw e₁ (retain_same (flagged (set (replicate 256 1) owner 0)) (λ t. not (eqb t owner)) (λ t k. all_but owner t h k) 10 clock (without_probe w) (sound_no_probe s))

  pub key_kept : key_of owner w₂ ≤ max_seat
  unfolding key_of retain_peer_assignments extract seats_kept
  key_kept = rw (e₂, e₁) (s.keys.most owner)

  pub lost_window : (w₃ : Window) → w₃ ≡ mark_peer_unresponsive owner clock w₂ → with_preferred (Some alternate) w₃ ≡ (hedge_lost owner alternate clock w).window
  unfolding hedge_lost
  lost_window w₃ e₃ = rw (e₃, e₂, but_one)

  pub lost_gone : (retain_peer_assignments (flagged (set (replicate 256 1) owner 0)) 10 w₁).gone ≡ (hedge_lost owner alternate clock w).gone
  unfolding hedge_lost
  lost_gone = ap (λ (x : Step). x.gone) but_one

pub probe_ranged : (clock : ℕ) (w w₁ : Window) → Sound clock w → w₁ ≡ without_probe w → Ranged w₁
probe_ranged clock w w₁ s e = subst Ranged (sym e) (sound_ranged clock (without_probe w) (sound_no_probe s))

-- a resolution of the window's cold front is its step
pub resolved_is : (r : Resolution) (x : ColdFront) (h : Hash) (source clock : ℕ) (w : Window) → x ≡ w.races.cold
    → ((c : ℕ) (v : Window) → resolved r c v ≡ resolve_by x h source c v) → resolved r clock w ≡ resolve_cold_front_delivery h source clock w
unfolding resolve_cold_front_delivery
resolved_is r x h source clock w e f = f clock w ∙ ap (λ (y : ColdFront). resolve_by y h source clock w) e

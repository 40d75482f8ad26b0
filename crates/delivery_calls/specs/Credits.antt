-- A credit step by step. Assumes nothing.
use Rattle.std.specs.Prelude.{◌≡◌, ℕ, length, Option}
use Rattle.std.proofs.Math.Path.{sym, ap}
use Rattle.std.proofs.Common.{◌∙◌}
use mathlib.Core.List.{List, []}
use Rattle.model.specs.Races.{resolve_cold_front_delivery, record_prefix_probe_delivery}
use Rattle.model.specs.Calls.{body_noted, credit_duplicate_delivery, progress_by, credit_delivery_from}
use Rattle.model.specs.Window.{Window, Step, and_then}
use Rattle.model.specs.declared.Hash.{Hash}
use Rattle.laws.specs.Sound.{Sound}
use Rattle.laws.specs.Lets.{lets_then}
use Rattle.laws.proofs.RacesKept.{resolve_lets, probe_lets}
use Rattle.calls.specs.Credits.{resolved_none, resolved_some}
use Rattle.report_words.specs.Report.{releases_of, length_releases}

-- the cold front, then the race
abbrev pub raced : Hash → ℕ → ℕ → Window → Step
raced h source clock w = and_then (resolve_cold_front_delivery h source clock w) (record_prefix_probe_delivery h source clock)

module _ (h : Hash) (source clock : ℕ) (w : Window) where
  pub raced_sound : Sound clock w → Sound clock (raced h source clock w).window
  raced_sound g = (lets_then (record_prefix_probe_delivery h source clock) (resolve_lets h source g) (λ v k. probe_lets h source k)).sound

  module _ (n : ℕ) (gs : List ℕ) (e : releases_of n gs ≡ (resolve_cold_front_delivery h source clock w).gone) where
    pub hedge_let_go : (n ≡ 0 → ⊥) → resolve_cold_front_delivery h source clock w ≡ raced h source clock w
    hedge_let_go k = sym (resolved_some h source clock w (λ (z : (resolve_cold_front_delivery h source clock w).gone ≡ []). k (sym (length_releases n gs) ∙ ap length (e ∙ z))))

    pub hedge_let_none : (v : Window) → v ≡ (resolve_cold_front_delivery h source clock w).window → n ≡ 0 → record_prefix_probe_delivery h source clock v ≡ raced h source clock w
    unfolding releases_of
    hedge_let_none v ev z =
        let none : (resolve_cold_front_delivery h source clock w).gone ≡ [] = sym e ∙ ap (λ (k : ℕ). releases_of k gs) z in
        ap (record_prefix_probe_delivery h source clock) ev ∙ sym (resolved_none h source clock w none)

-- what comes before the races
abbrev pub begun : Hash → ℕ → ℕ → Window → Window
begun h source clock w = credit_duplicate_delivery h source (body_noted source clock w)

module _ (h : Hash) (source : ℕ) (height : Option ℕ) (clock : ℕ) (w v₁ : Window) (e₁ : v₁ ≡ begun h source clock w) where
  pub credit_window : (v₂ : Window) → v₂ ≡ (raced h source clock v₁).window → progress_by height source h clock v₂ ≡ (credit_delivery_from h source height clock w).window
  unfolding credit_delivery_from
  credit_window v₂ e₂ = ap (progress_by height source h clock) (e₂ ∙ ap (λ (v : Window). (raced h source clock v).window) e₁)

  pub credit_gone : (raced h source clock v₁).gone ≡ (credit_delivery_from h source height clock w).gone
  unfolding credit_delivery_from
  credit_gone = ap (λ (v : Window). (raced h source clock v).gone) e₁

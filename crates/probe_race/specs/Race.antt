-- A delivery in the race, step by step. Assumes nothing.
use Rattle.std.specs.Prelude.{◌≡◌, Bool, true, cond, ◌||◌, List, ℕ, ◌^◌, ◌≤◌, ◌<◌, length, get_or, set, ltb, None, Some, Option}
use Rattle.std.proofs.Math.Path.{refl, ap}
use Rattle.std.proofs.Common.{sym, ◌∙◌, subst, arith, lt-ltb, le-ltb}
use Rattle.std.proofs.Math.Bool.{not}
use Rattle.std.specs.Int.Bits.{bit_or}
use Rattle.std.proofs.Math.Dec.{eqb}
use Rattle.model.specs.Numbers.{max_seat, max_clock, present}
use Rattle.model.specs.Cooling.{key_of, mark_peer_unresponsive}
use Rattle.model.specs.LettingGo.{flagged, extract, seats_kept, retain_peer_assignments}
use Rattle.model.specs.Races.{place_of, all_four, progressed, winner, race_won, race_by, race_progress, probe_delivery, record_prefix_probe_delivery}
use Rattle.model.specs.Window.{Window, Step, stay, with_probe, without_probe, with_cold, with_observation, with_preferred, probing}
use Rattle.model.specs.declared.Hash.{Hash}
use Rattle.model.specs.declared.PrefixProbe.{PrefixProbe}
use Rattle.model.specs.declared.ColdFront.TheVariants.{Idle}
use Rattle.model.specs.declared.Observation.TheVariants.{Unarmed}
use Rattle.laws.specs.Sound.{Sound, SoundProbe}
use Rattle.laws.specs.Parts.{bounded_set, sound_cold, sound_probe, sound_no_probe, sound_observation}
use Rattle.laws.specs.Pending.{Ranged, sound_ranged}
use Rattle.races.specs.Flags.{retain_same}
use Rattle.probe_race.specs.Bits.{progressed_le}
use Rattle.probe_race.specs.Scans.{keeps, Flags}

-- ---- a race that is won

-- what a win ends
abbrev pub ended : Window → Window
ended w = with_observation Unarmed (with_cold Idle (without_probe w))

ended_sound : {c : ℕ} {w : Window} → Sound c w → Sound c (ended w)
ended_sound g = sound_observation (sound_cold (sound_no_probe g) Idle tt) Unarmed tt

pub ended_ranged : (clock : ℕ) (w w₁ : Window) → Sound clock w → w₁ ≡ ended w → Ranged w₁
ended_ranged clock w w₁ s e = subst Ranged (sym e) (sound_ranged clock (ended w) (ended_sound s))

module _ (clock win owner : ℕ) (w w₁ w₂ : Window) (flags : List ℕ) (s : Sound clock w) (f : Flags win w.races.racers 256 flags) (e₁ : w₁ ≡ ended w)
    (e₂ : w₂ ≡ (retain_peer_assignments (flagged flags) 9 w₁).window) where
  but_losers : retain_peer_assignments (flagged flags) 9 w₁ ≡ retain_peer_assignments (λ t. eqb t win || not (present (get_or w.races.racers t 0))) 9 (ended w)
  unfolding keeps
  but_losers = rw e₁ (retain_same (flagged flags) (λ t. eqb t win || not (present (get_or w.races.racers t 0))) f.each 9 clock (ended w) (ended_sound s))

  pub key_kept : key_of owner w₂ ≤ max_seat
  unfolding key_of retain_peer_assignments extract seats_kept
  key_kept = rw (e₂, e₁) (s.keys.most owner)

  pub won_window : (w₃ : Window) → w₃ ≡ cond (eqb win owner) w₂ (mark_peer_unresponsive owner clock w₂)
      → with_preferred (Some win) w₃ ≡ (race_won win owner w.races.racers clock w).window
  unfolding race_won
  won_window w₃ e₃ = rw (e₃, e₂, but_losers)

  pub won_gone : (retain_peer_assignments (flagged flags) 9 w₁).gone ≡ (race_won win owner w.races.racers clock w).gone
  unfolding race_won
  won_gone = ap (λ (x : Step). x.gone) but_losers

-- ---- the source's progress, before the race is looked at

abbrev pub noted : ℕ → ℕ → Window → Window
noted i source w = with_probe w.races.probe w.races.planned (set w.races.racers source (progressed i (get_or w.races.racers source 0))) w

-- what is known of a probe
pub probe_ranges : (c owner accepted started : ℕ) (w : Window) → Sound c w → w.races.probe ≡ probing owner accepted started
    → (owner ≤ max_seat) × (started ≤ max_clock)
probe_ranges c owner accepted started w g e =
    let k = subst (λ (p : Option PrefixProbe). SoundProbe c p w.races.planned w.races.racers) e g.races.probe in
    (k.0, omega (arith, k.2, g.clock))

pub noted_sound : (c i source owner accepted started : ℕ) (w : Window) → i < 8 → Sound c w → w.races.probe ≡ probing owner accepted started → Sound c (noted i source w)
noted_sound c i source owner accepted started w h g e =
    let rs = w.races.racers in
    let rs' = set rs source (progressed i (get_or rs source 0)) in
    let k = subst (λ (p : Option PrefixProbe). SoundProbe c p w.races.planned rs) e g.races.probe in
    let k' : SoundProbe c w.races.probe w.races.planned rs' = subst (λ (p : Option PrefixProbe). SoundProbe c p w.races.planned rs') (sym e) k in
    sound_probe g w.races.probe w.races.planned rs' k' (bounded_set source (progressed i (get_or rs source 0)) (progressed_le i (get_or rs source 0) h (g.races.racers.most source)) g.races.racers)

-- without a winner the probe goes on, unless all four are in
abbrev pub goes_on : ℕ → ℕ → ℕ → Window → Window
goes_on owner accepted started v = cond (all_four accepted) (without_probe v) (with_probe (probing owner accepted started) v.races.planned v.races.racers v)

module _ (i source owner accepted started clock : ℕ) (w v : Window) (e : v ≡ noted i source w) (s : Option ℕ) (k : s ≡ winner 0 v.races.racers) where
  abbrev raced : Option ℕ → Step
  raced x = race_by x owner (bit_or accepted (2 ^ i)) started (noted i source w).races.racers clock w

  winner_is : winner 0 (noted i source w).races.racers ≡ s
  winner_is = ap (λ (u : Window). winner 0 u.races.racers) (sym e) ∙ sym k

  pub race_on_is : (bit : ℕ) → bit ≡ 2 ^ i → s ≡ None → stay (goes_on owner (bit_or accepted bit) started v) ≡ race_progress i source owner accepted started clock w
  unfolding race_progress
  race_on_is bit b q = (λ j. stay (goes_on owner (bit_or accepted (b j)) started (e j))) ∙ ap raced (sym (winner_is ∙ q))

  won_same : (win : ℕ) → race_won win owner (noted i source w).races.racers clock (noted i source w) ≡ raced (Some win)
  unfolding race_won
  won_same win = refl

  pub race_won_is : (win : ℕ) → s ≡ Some win → race_won win owner v.races.racers clock v ≡ race_progress i source owner accepted started clock w
  unfolding race_progress
  race_won_is win q = (λ j. race_won win owner (e j).races.racers clock (e j)) ∙ won_same win ∙ ap raced (sym (winner_is ∙ q))

-- ---- a delivery, case by case

module _ (h : Hash) (source clock : ℕ) (w : Window) (p : Option PrefixProbe) (ep : p ≡ w.races.probe) where
  pub delivery_none : p ≡ None → stay w ≡ record_prefix_probe_delivery h source clock w
  unfolding record_prefix_probe_delivery
  delivery_none q = ap (λ (x : Option PrefixProbe). probe_delivery x h source clock w) (sym q ∙ ep)

  module _ (owner accepted started i : ℕ) (q : p ≡ probing owner accepted started) (ei : i ≡ place_of h w.races.planned) where
    abbrev there : Bool → ℕ → Step
    there b j = cond b (race_progress j source owner accepted started clock w) (stay w)

    delivery_at : there (ltb (place_of h w.races.planned) (length w.races.planned)) (place_of h w.races.planned) ≡ record_prefix_probe_delivery h source clock w
    unfolding record_prefix_probe_delivery
    delivery_at = ap (λ (x : Option PrefixProbe). probe_delivery x h source clock w) (sym q ∙ ep)

    pub delivery_other : length w.races.planned ≤ i → stay w ≡ record_prefix_probe_delivery h source clock w
    delivery_other b = ap (λ (x : Bool). there x (place_of h w.races.planned)) (sym (le-ltb (place_of h w.races.planned) (length w.races.planned) (omega arith))) ∙ delivery_at

    pub delivery_planned : i < length w.races.planned → race_progress i source owner accepted started clock w ≡ record_prefix_probe_delivery h source clock w
    delivery_planned b =
        ap (there true) ei ∙ ap (λ (x : Bool). there x (place_of h w.races.planned)) (sym (lt-ltb (place_of h w.races.planned) (length w.races.planned) (omega arith))) ∙ delivery_at

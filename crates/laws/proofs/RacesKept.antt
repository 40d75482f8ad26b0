-- A delivery in the prefix race, and one of the cold front (SPECIFICATION 6.9 and 6.10), keep a window sound. Assumes nothing.
use Rattle.std.specs.Prelude.{refl, cond, not, ◌||◌, List, [], ◌∷◌, ℕ, zero, suc, ◌+◌, ◌^◌, ◌≤◌, ◌<◌, length, get_or, set, eqb, ltb, None, Some, Option}
use Rattle.std.proofs.Common.{inl, inr, arith, ltb-true}
use Rattle.std.proofs.Math.Nat.{pow-le-pow_right}
use Rattle.std.specs.Int.Bits.{bit_or}
use Rattle.std.proofs.lemmas.Nat.{or_lt}
use Rattle.model.specs.Numbers.{max_seat, present}
use Rattle.model.specs.Hash.{same}
use Rattle.model.specs.Cooling.{mark_peer_unresponsive}
use Rattle.model.specs.Window.{Window, with_preferred, probing}
use Rattle.model.specs.Races.{planned, place_of, all_four, progressed, has_won, winner, race_won, race_by, race_progress, probe_delivery, record_prefix_probe_delivery, hedge_lost, resolve_by, resolve_cold_front_delivery}
use Rattle.model.specs.declared.Hash.{Hash}
use Rattle.model.specs.declared.ColdFront.{ColdFront}
use Rattle.model.specs.declared.ColdFront.TheVariants.{Idle, Waiting, Racing}
use Rattle.model.specs.declared.PrefixProbe.{PrefixProbe}
use Rattle.model.specs.declared.Observation.TheVariants.{Unarmed}
use Rattle.laws.specs.Numbers.{both}
use Rattle.laws.specs.Sound.{Bounded, SoundSource, SoundCold, SoundProbe, Sound}
use Rattle.laws.specs.Parts.{bounded_set, sound_cold, sound_preferred, sound_probe, sound_no_probe, sound_observation}
use Rattle.laws.specs.Lets.{Lets, Steady, lets_stay, lets_after, steady_lets}
use Rattle.laws.proofs.Lets.{retain_lets}
use Rattle.laws.specs.RacesKept.{unresponsive_steady}

-- ---- a delivery in the race

bit_lt : (i : ℕ) → i < 8 → 2 ^ i < 256
bit_lt i h = let b : 2 ^ i ≤ 128 = pow-le-pow_right {n = 2} (omega arith) {i = i} {j = 7} (omega arith) in omega arith

or_le : (p i : ℕ) → p ≤ 255 → i < 8 → bit_or p (2 ^ i) ≤ 255
or_le p i h k = let b = or_lt 8 p (2 ^ i) (omega arith) (bit_lt i k) in omega arith

progressed_le : (i r : ℕ) → i < 8 → r ≤ 256 → progressed i r ≤ 256
progressed_le i zero h k = omega arith
progressed_le i (suc p) h k = omega (arith, or_le p i (omega arith) h)

winner_sound : (i : ℕ) (rs : List ℕ) → i + length rs ≤ 256 → SoundSource (winner i rs)
unfolding winner
winner_sound i [] h = tt
winner_sound i (r ∷ rs) h = elim (both (has_won r)) [ inl q ↦ rw q (omega arith) | inr q ↦ rw q (winner_sound (suc i) rs (omega arith)) ]

-- the winner is preferred, and the owner is cooled unless it won
won_steady : {c : ℕ} {v : Window} (win owner : ℕ) → win ≤ max_seat → Sound c v → Steady c v (with_preferred (Some win) (cond (eqb win owner) v (mark_peer_unresponsive owner c v)))
won_steady win owner b k = elim (both (eqb win owner)) [
  | inl q ↦ rw q (record { sound = sound_preferred k (Some win) b; same = refl })
  | inr q ↦ let u = unresponsive_steady owner k in rw q (record { sound = sound_preferred u.sound (Some win) b; same = u.same })
]

race_won_lets : {c : ℕ} {w : Window} (win owner : ℕ) (racers : List ℕ) → win ≤ max_seat → Sound c w → Lets c w (race_won win owner racers c w)
unfolding race_won
race_won_lets {c} win owner racers b g =
    let g₁ = sound_observation (sound_cold (sound_no_probe g) Idle tt) Unarmed tt in
    lets_after (λ v. with_preferred (Some win) (cond (eqb win owner) v (mark_peer_unresponsive owner c v)))
    (steady_lets (record { sound = g₁; same = refl }) (retain_lets (λ s. eqb s win || not (present (get_or racers s 0))) 8 g₁)) (λ v k. won_steady win owner b k)

race_by_lets : {c : ℕ} {w : Window} (s : Option ℕ) (owner accepted started : ℕ) (racers : List ℕ) → SoundSource s → SoundProbe c (probing owner accepted started) w.races.planned racers
    → Bounded 256 racers → Sound c w → Lets c w (race_by s owner accepted started racers c w)
race_by_lets {c} {w} None owner accepted started racers s p b g = elim (both (all_four accepted)) [
  | inl q ↦ rw q (lets_stay (record { sound = sound_no_probe g; same = refl }))
  | inr q ↦ rw q (lets_stay (record { sound = sound_probe g (probing owner accepted started) w.races.planned racers p b; same = refl }))
]
race_by_lets (Some win) owner accepted started racers s p b g = race_won_lets win owner racers s g

race_progress_lets : {c : ℕ} {w : Window} (i source owner accepted started : ℕ) → i < 8 → SoundProbe c (probing owner accepted started) w.races.planned w.races.racers
    → Sound c w → Lets c w (race_progress i source owner accepted started c w)
unfolding race_progress
race_progress_lets {c} {w} i source owner accepted started h p g =
    let rs = w.races.racers in
    let rs' = set rs source (progressed i (get_or rs source 0)) in
    let b : Bounded 256 rs' = bounded_set source (progressed i (get_or rs source 0)) (progressed_le i (get_or rs source 0) h (g.races.racers.most source)) g.races.racers in
    race_by_lets (winner 0 rs') owner (bit_or accepted (2 ^ i)) started rs' (winner_sound 0 rs' (omega (arith, b.places))) (p.0, or_le accepted i p.1 h, p.2, p.3) b g

probe_delivery_lets : {c : ℕ} {w : Window} (p : Option PrefixProbe) (h : Hash) (source : ℕ) → SoundProbe c p w.races.planned w.races.racers → Sound c w → Lets c w (probe_delivery p h source c w)
probe_delivery_lets None h source k g = lets_stay (record { sound = g; same = refl })
probe_delivery_lets {c} {w} (Some p) h source k g =
    let i = place_of h w.races.planned in
    elim (both (ltb i (length w.races.planned))) [
      | inl q ↦ rw q (race_progress_lets i source p.owner p.accepted p.started (omega (arith, ltb-true i (length w.races.planned) q, k.3)) k g)
      | inr q ↦ rw q (lets_stay (record { sound = g; same = refl }))
    ]

pub probe_lets : {c : ℕ} {w : Window} (h : Hash) (source : ℕ) → Sound c w → Lets c w (record_prefix_probe_delivery h source c w)
unfolding record_prefix_probe_delivery
probe_lets {w = w} h source g = probe_delivery_lets w.races.probe h source g.races.probe g

hedge_lost_lets : {c : ℕ} {w : Window} (owner alternate : ℕ) → alternate ≤ max_seat → Sound c w → Lets c w (hedge_lost owner alternate c w)
unfolding hedge_lost
hedge_lost_lets owner alternate a g =
    let g₁ = sound_no_probe g in
    lets_after _ (steady_lets (record { sound = g₁; same = refl }) (retain_lets (λ s. not (eqb s owner)) 9 g₁))
    (λ v k. let u = unresponsive_steady owner k in record { sound = sound_preferred u.sound (Some alternate) a; same = u.same })

resolve_by_lets : {c : ℕ} {w : Window} (x : ColdFront) (h : Hash) (source : ℕ) → SoundCold c x → Sound c w → Lets c w (resolve_by x h source c w)
resolve_by_lets Idle h source k g = lets_stay (record { sound = g; same = refl })
resolve_by_lets (Waiting owner front since) h source k g = elim (both (same front h)) [
  | inl q ↦ rw q (lets_stay (record { sound = sound_cold g Idle tt; same = refl }))
  | inr q ↦ rw q (lets_stay (record { sound = g; same = refl }))
]
resolve_by_lets (Racing owner alternate front) h source k g = elim (both (same front h)) [
  | inl q ↦ elim (both (eqb source alternate)) [
    | inl j ↦ simp (q, j) (let g₁ = sound_cold g Idle tt in steady_lets (record { sound = g₁; same = refl }) (hedge_lost_lets owner alternate k.1 g₁))
    | inr j ↦ simp (q, j) (lets_stay (record { sound = sound_cold g Idle tt; same = refl }))
  ]
  | inr q ↦ rw q (lets_stay (record { sound = g; same = refl }))
]

pub resolve_lets : {c : ℕ} {w : Window} (h : Hash) (source : ℕ) → Sound c w → Lets c w (resolve_cold_front_delivery h source c w)
unfolding resolve_cold_front_delivery
resolve_lets {w = w} h source g = resolve_by_lets w.races.cold h source g.races.cold g

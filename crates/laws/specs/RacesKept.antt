-- What SPECIFICATION 6.5 and 6.8 to 6.10 say keeps a window sound: cooling, the plan of a prefix probe, its confirmation, a hedge. Assumes nothing.
use Rattle.std.specs.Prelude.{refl, cond, not, ◌&&◌, ◌||◌, List, [], ◌∷◌, ◌++◌, ℕ, zero, suc, ◌+◌, ◌*◌, ◌/◌, ◌≤◌, length, set, eqb, ltb, leb, Some, None, Option}
use Rattle.std.proofs.Common.{inl, inr, arith, length-append, leb-false}
use Rattle.model.specs.Numbers.{max_seat, next_height}
use Rattle.model.specs.Lists.{any}
use Rattle.model.specs.Hash.{same, same_hashes, hashes_in}
use Rattle.model.specs.Records.{lowest}
use Rattle.model.specs.Cooling.{cools, cooling_noted, key_of, mark_peer_unresponsive}
use Rattle.model.specs.Window.{Window, probing}
use Rattle.model.specs.Races.{Planned, no_plan, planned, plan_limit, win_blocks, walk, plan_from, is_missing, is_seat, is_probing, plan_by, prefix_probe_plan, by_height, entered, probe_started, confirm_by, is_empty, confirm_prefix_probe, max_hedges, waits_for, hedge_begun, confirm_cold_front_hedge}
use Rattle.model.specs.declared.Hash.{Hash}
use Rattle.model.specs.declared.Entry.{Entry}
use Rattle.model.specs.declared.ColdFront.TheVariants.{Racing}
use Rattle.laws.specs.Numbers.{both, lesser_le_second}
use Rattle.laws.specs.Sound.{Bounded, Sound}
use Rattle.laws.specs.Parts.{bounded_set, bounded_map, bounded_none, sound_cooling, sound_cold, sound_hedged, sound_attempted, sound_probe}
use Rattle.laws.specs.Lets.{Steady}

-- ---- cooling

cooling_bounded : (cooldown k c : ℕ) (l : List ℕ) → Bounded (suc c) l → Bounded (suc c) (cooling_noted cooldown k c l)
unfolding cooling_noted
cooling_bounded cooldown k c l b =
    bounded_set k (suc c) (omega arith)
    (bounded_map (λ s. cond (cools cooldown c s) s 0) (λ x. elim (both (cools cooldown c x)) [ inl q ↦ rw q (omega arith) | inr q ↦ rw q (omega arith) ]) b)

pub unresponsive_steady : {c : ℕ} {w : Window} (source : ℕ) → Sound c w → Steady c w (mark_peer_unresponsive source c w)
unfolding mark_peer_unresponsive
unresponsive_steady {c} {w} source g =
    record { sound = sound_cooling g _ (cooling_bounded w.settings.staller_cooldown (key_of source w) c w.cooling g.cooling); same = refl }

-- ---- the plan has at most eight hashes

abbrev Short : Planned → Type 0
Short no_plan = Unit {0}
Short (planned owner hashes end) = length hashes ≤ 8

walk_le : (n expected : ℕ) (l : List Entry) → length (walk n expected l) ≤ n
unfolding walk
walk_le zero expected l = omega arith
walk_le (suc n) expected [] = omega arith
walk_le (suc n) expected (e ∷ l) = elim (both (eqb e.height expected)) [
  | inl q ↦ rw q (omega (arith, walk_le n (next_height expected) l))
  | inr q ↦ rw q (omega arith)
]

limit_le : (mean : ℕ) → plan_limit mean ≤ 8
unfolding plan_limit
limit_le mean = lesser_le_second (2097152 / mean) 8

from_short : (owner first : ℕ) (hashes : List Hash) → length hashes ≤ 8 → Short (plan_from owner first hashes)
unfolding plan_from
from_short owner first hashes k = elim (both (leb win_blocks (length hashes))) [ inl q ↦ rw q k | inr q ↦ rw q tt ]

by_short : (f : Option Entry) (w : Window) → Short (plan_by f w)
by_short None w = tt
by_short (Some e) w = elim (both (is_seat w.races.attempted e.owner || any (λ x. not (eqb x.owner e.owner)) w.queue.pending)) [
  | inl q ↦ rw q tt
  | inr q ↦ elim (both (ltb (plan_limit w.mean) win_blocks)) [
    | inl k ↦ simp (q, k) tt
    | inr k ↦ simp (q, k) (from_short e.owner e.height _ (omega (arith, walk_le (plan_limit w.mean) e.height (by_height w.queue.pending), limit_le w.mean)))
  ]
]

pub plan_short : (w : Window) → Short (prefix_probe_plan w)
unfolding prefix_probe_plan
plan_short w = elim (both (not (is_missing w.races.preferred) || is_probing w.races.probe || w.fanout.engaged)) [
  | inl q ↦ rw q tt
  | inr q ↦ rw q (by_short (lowest w.queue.pending) w)
]

-- ---- its confirmation

entered_bounded : (ss : List ℕ) (l : List ℕ) → Bounded 256 l → Bounded 256 (entered ss l)
unfolding entered
entered_bounded [] l b = b
entered_bounded (s ∷ ss) l b = entered_bounded ss (set l s 1) (bounded_set s 1 (omega arith) b)

started_steady : {c : ℕ} {w : Window} (owner : ℕ) (hashes : List Hash) (alternates : List ℕ) → owner ≤ max_seat → length hashes ≤ 8 → Sound c w
    → Steady c w (probe_started owner hashes alternates c w)
unfolding probe_started
started_steady {c} owner hashes alternates o k g = record {
  sound = sound_probe (sound_attempted g (Some owner) o) (probing owner 0 c) hashes _ (o, omega arith, omega arith, k) (entered_bounded alternates _ (bounded_set owner 1 (omega arith) (bounded_none 256)));
  same = refl;
}

confirm_by_steady : {c : ℕ} {w : Window} (p : Planned) (owner : ℕ) (given alternates : List ℕ) → owner ≤ max_seat → Short p → Sound c w
    → Steady c w (confirm_by p owner given alternates c w)
confirm_by_steady no_plan owner given alternates o k g = record { sound = g; same = refl }
confirm_by_steady (planned own hashes end) owner given alternates o k g =
    elim (both (eqb own owner && (eqb (length given) (4 * length hashes) && same_hashes hashes (hashes_in given)))) [
      | inl q ↦ rw q (started_steady owner hashes alternates o k g)
      | inr q ↦ rw q (record { sound = g; same = refl })
    ]

pub confirm_steady : {c : ℕ} {w : Window} (owner : ℕ) (given alternates : List ℕ) → owner ≤ max_seat → Sound c w
    → Steady c w (confirm_prefix_probe owner given alternates c w)
unfolding confirm_prefix_probe
confirm_steady {c} {w} owner given alternates o g = elim (both (is_empty alternates)) [
  | inl q ↦ rw q (record { sound = g; same = refl })
  | inr q ↦ rw q (confirm_by_steady (prefix_probe_plan w) owner given alternates o (plan_short w) g)
]

-- ---- the cold front

pub hedge_steady : {c : ℕ} {w : Window} (owner alternate : ℕ) (h : Hash) → owner ≤ max_seat → alternate ≤ max_seat → Sound c w
    → Steady c w (confirm_cold_front_hedge owner alternate h w)
unfolding confirm_cold_front_hedge hedge_begun
hedge_steady {c} {w} owner alternate h o a g = elim (both (not (waits_for w.races.cold owner h))) [
  | inl q ↦ rw q (record { sound = g; same = refl })
  | inr q ↦ elim (both (any (λ x. same x h) w.races.hedged)) [
    | inl k ↦ simp (q, k) (record { sound = sound_cold g (Racing owner alternate h) (o, a); same = refl })
    | inr k ↦ elim (both (leb max_hedges (length w.races.hedged))) [
      | inl j ↦ simp (q, k, j) (record { sound = g; same = refl })
      | inr j ↦ simp (q, k, j) (record {
        sound = sound_cold (sound_hedged g (w.races.hedged ++ (h ∷ [])) (omega (arith, length-append w.races.hedged (h ∷ []), leb-false max_hedges (length w.races.hedged) j)))
            (Racing owner alternate h) (o, a);
        same = refl;
      })
    ]
  ]
]

-- Keeping of seats by flags is keeping of seats by any rule that agrees with them on the 256 seats. Assumes nothing.
use Rattle.std.specs.Prelude.{◌≡◌, Bool, true, false, not, ℕ, zero, suc, ◌+◌, ◌≤◌, ◌<◌, length, get_or, set, replicate, eqb}
use Rattle.std.proofs.Math.Path.{refl}
use Rattle.std.proofs.Common.{sym, ap, ◌∙◌, inl, inr, arith, length-set, get_or-set_same, get_or-set_other, eqb-true}
use Rattle.std.proofs.Math.Bool.{cond}
use mathlib.Core.List.{List, [], ◌∷◌}
use Rattle.std.proofs.lemmas.List.{get_or-replicate, length-replicate}
use Rattle.std.proofs.lemmas.Bool.{eqb-false}
use Rattle.model.specs.Numbers.{max_clock}
use Rattle.model.specs.Seats.{keep_seats}
use Rattle.model.specs.LettingGo.{gone, kept, if_gone, if_kept, lost_reason, total_after, frontier_after, extract, observation_kept, seats_kept, retain_peer_assignments, flagged}
use Rattle.model.specs.Window.{Window, Step, queue, with_queue, with_frontier, with_observation}
use Rattle.model.specs.declared.Entry.{Entry}
use Rattle.model.specs.declared.Release.{Release}
use Rattle.model.specs.declared.Observation.{Observation}
use Rattle.model.specs.declared.Observation.TheVariants.{Unarmed, Armed, Swept}
use Rattle.laws.specs.Numbers.{both}
use Rattle.laws.specs.Entries.{Each}
use Rattle.laws.specs.Sound.{InRange, SoundObservation, Sound}
use Rattle.laws.specs.Pending.{Ranged, sound_ranged}

module _ (f g : ℕ → Bool) (agree : (s : ℕ) → s < 256 → f s ≡ g s) where
  gone_same : (reason : ℕ) (l : List Entry) → Each (InRange max_clock) l → gone (lost_reason f reason) l ≡ gone (lost_reason g reason) l
  unfolding gone lost_reason
  gone_same reason [] a = refl
  gone_same reason (e ∷ l) a = let h = agree e.owner (omega (arith, a.0.owner)) in let r = gone_same reason l a.1 in λ i. if_gone (cond (h i) 0 reason) e (r i)

  kept_same : (reason : ℕ) (l : List Entry) → Each (InRange max_clock) l → kept (lost_reason f reason) l ≡ kept (lost_reason g reason) l
  unfolding kept lost_reason
  kept_same reason [] a = refl
  kept_same reason (e ∷ l) a = let h = agree e.owner (omega (arith, a.0.owner)) in let r = kept_same reason l a.1 in λ i. if_kept (cond (h i) 0 reason) e (r i)

  seats_same : (i : ℕ) (l : List ℕ) → i + length l ≤ 256 → keep_seats f i l ≡ keep_seats g i l
  unfolding keep_seats
  seats_same i [] n = refl
  seats_same i (x ∷ l) n = let h = agree i (omega arith) in let r = seats_same (suc i) l (omega arith) in λ j. cond (h j) x 0 ∷ r j

  observation_same : (o : Observation) → SoundObservation o → observation_kept f o ≡ observation_kept g o
  observation_same Unarmed k = refl
  observation_same (Armed owner h) k = ap (λ (b : Bool). cond b (Armed owner h) Unarmed) (agree owner (omega arith))
  observation_same (Swept owner h) k = ap (λ (b : Bool). cond b (Swept owner h) Unarmed) (agree owner (omega arith))

  abbrev retained : Window → List Release → List Entry → List ℕ → List ℕ → Observation → Step
  retained w gs ks ss bs o = record {
    window = with_queue (queue (total_after gs w.queue.total) ks ss bs) (with_observation o (with_frontier (frontier_after gs w.frontier) w));
    gone = gs;
  }

  pub retain_same : (reason c : ℕ) (w : Window) → Sound c w → retain_peer_assignments f reason w ≡ retain_peer_assignments g reason w
  unfolding retain_peer_assignments extract seats_kept
  retain_same reason c w s =
      let a = sound_ranged c w s in
      let gs = gone_same reason w.queue.pending a in
      let ks = kept_same reason w.queue.pending a in
      let ss = seats_same 0 w.queue.starts (omega (arith, s.queue.seats)) in
      let bs = seats_same 0 w.queue.bodies (omega (arith, s.queue.bodies.places)) in
      let o = observation_same w.watch.observation s.watch.observation in
      λ i. retained w (gs i) (ks i) (ss i) (bs i) (o i)

-- every seat but one
pub all_but : (owner s : ℕ) → owner < 256 → s < 256 → flagged (set (replicate 256 1) owner 0) s ≡ not (eqb s owner)
unfolding flagged
all_but owner s h k = elim (both (eqb s owner)) [
  | inl q ↦ let e = eqb-true s owner q in rw (q, e, get_or-set_same {A = ℕ} (replicate {A = ℕ} 256 1) owner 0 0 (omega (arith, length-replicate {A = ℕ} 256 1)))
  | inr q ↦ rw (q, get_or-set_other {A = ℕ} (replicate {A = ℕ} 256 1) owner s 0 0 (eqb-false s owner q), get_or-replicate {A = ℕ} 256 s 1 0 k)
]

pub flags_long : (owner : ℕ) → length (set (replicate {A = ℕ} 256 1) owner 0) ≡ 256
flags_long owner = length-set {A = ℕ} (replicate {A = ℕ} 256 1) owner 0 ∙ length-replicate {A = ℕ} 256 1

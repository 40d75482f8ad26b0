-- A rejection, by whether its source owns the entry. Assumes nothing.
use Rattle.std.specs.Prelude.{◌≡◌, refl, Bool, true, false, cond, ◌&&◌, ◌||◌, ℕ, suc, ◌≤◌, length, eqb, None, Some, Option}
use Rattle.std.proofs.Common.{sym, ◌∙◌, inl, inr, arith}
use Rattle.std.proofs.Math.Path.{ap, subst}
use mathlib.Core.List.{List, []}
use Rattle.model.specs.Hash.{same}
use Rattle.model.specs.Records.{found}
use Rattle.model.specs.LettingGo.{remove_pending}
use Rattle.model.specs.Calls.{unless_front, is_owner, rejected_by, reject_delivery, credit_duplicate_delivery}
use Rattle.model.specs.Queries.{flag}
use Rattle.model.specs.Perform.{says}
use Rattle.model.specs.Says.{rejected_answer}
use Rattle.model.specs.Window.{Window, Queue, Step, stay}
use Rattle.model.specs.declared.Hash.{Hash}
use Rattle.model.specs.declared.Release.{Release}
use Rattle.model.specs.declared.Rejected.{Rejected}
use Rattle.model.specs.declared.Rejected.TheVariants.{ReleasedPending, DiscardedUnsolicited}
use Rattle.model.specs.declared.ColdFront.{ColdFront}
use Rattle.model.specs.declared.ColdFront.TheVariants.{Idle, Waiting, Racing}
use Rattle.laws.specs.Numbers.{both}
use Rattle.laws.specs.Sound.{Sound, SoundCold}
use Rattle.laws.specs.Parts.{sound_cold}
use Rattle.laws.specs.CallsKept.{duplicate_steady}
use Rattle.laws.specs.Whole.{Holds}
use Rattle.report_words.specs.Report.{releases_of, length_releases}

front_sound : (c : ℕ) (h : Hash) (source : ℕ) (x : ColdFront) → SoundCold c x → SoundCold c (unless_front h source x)
front_sound c h source Idle k = k
front_sound c h source (Waiting owner x since) k = elim (both (same x h && eqb owner source)) [ inl q ↦ rw q tt | inr q ↦ rw q k ]
front_sound c h source (Racing owner alternate x) k = elim (both (same x h && (eqb source owner || eqb source alternate))) [ inl q ↦ rw q tt | inr q ↦ rw q k ]

-- what comes before the removal keeps a window sound, and its queue
pub rejected_sound : {c : ℕ} {w : Window} (s : Option ℕ) (h : Hash) → Sound c w → Sound c (rejected_by s h w)
rejected_sound None h g = g
rejected_sound {c} {w} (Some s) h g = sound_cold (duplicate_steady h s g).sound _ (front_sound c h s w.races.cold g.races.cold)

rejected_queue : (s : Option ℕ) (h : Hash) (w : Window) → (rejected_by s h w).queue ≡ w.queue
unfolding credit_duplicate_delivery
rejected_queue None h w = refl
rejected_queue (Some s) h w = refl

module _ (h : Hash) (s : Option ℕ) (c : ℕ) (w : Window) where
  abbrev owns : Bool
  owns = is_owner s (found h w.queue.pending)

  abbrev pub Rejects : Rejected → List ℕ → List ℕ → Type 0
  Rejects r ws gs =
      (rejected_answer r ≡ says (length (reject_delivery h s c w).gone) (flag owns))
      × (Holds (reject_delivery h s c w).window ws)
      × (releases_of (length (reject_delivery h s c w).gone) gs ≡ (reject_delivery h s c w).gone)

  same_owns : is_owner s (found h (rejected_by s h w).queue.pending) ≡ owns
  same_owns = ap (λ (q : Queue). is_owner s (found h q.pending)) (rejected_queue s h w)

  step_owned : owns ≡ true → reject_delivery h s c w ≡ remove_pending h 2 c (rejected_by s h w)
  unfolding reject_delivery
  step_owned e = rw (same_owns ∙ e)

  step_other : owns ≡ false → reject_delivery h s c w ≡ stay (rejected_by s h w)
  unfolding reject_delivery
  step_other e = rw (same_owns ∙ e)

  pub rejects_owned : (n : ℕ) (ws gs : List ℕ) → owns ≡ true → Holds (remove_pending h 2 c (rejected_by s h w)).window ws
      → releases_of n gs ≡ (remove_pending h 2 c (rejected_by s h w)).gone → Rejects (ReleasedPending n) ws gs
  rejects_owned n ws gs e k r =
      let q = step_owned e in
      let g : releases_of n gs ≡ (reject_delivery h s c w).gone = r ∙ ap (λ (x : Step). x.gone) (sym q) in
      let m : n ≡ length (reject_delivery h s c w).gone = sym (length_releases n gs) ∙ ap length g in
      ((λ i. says (m i) (flag (sym e i))), subst (λ (x : Step). Holds x.window ws) (sym q) k, subst (λ (j : ℕ). releases_of j gs ≡ (reject_delivery h s c w).gone) m g)

  pub rejects_other : (ws gs : List ℕ) → owns ≡ false → Holds (rejected_by s h w) ws → Rejects DiscardedUnsolicited ws gs
  unfolding releases_of
  rejects_other ws gs e k =
      let q = step_other e in
      let z : [] ≡ (reject_delivery h s c w).gone = ap (λ (x : Step). x.gone) (sym q) in
      ((λ i. says (length (z i)) (flag (sym e i))), subst (λ (x : Step). Holds x.window ws) (sym q) k, (λ i. releases_of (length (sym z i)) gs) ∙ z)

-- The decisions and the stuck step as the code answers them. Assumes nothing.
use Rattle.std.specs.Prelude.{◌≡◌, refl, Bool, true, false, ℕ, ◌*◌, None, Some, Option}
use Rattle.std.proofs.Common.{sym, ◌∙◌}
use Rattle.model.specs.Observation.{Decision, none, blame_staller, blame_timeout, evict, hedges, StuckStep, stuck_step, keeps, evict_says, stuck_still, evicted_by, advance_apply_side_stuck}
use Rattle.model.specs.Window.{Window}
use Rattle.model.specs.Perform.{says, decision_values}
use Rattle.model.specs.Says.{blocked_answer}
use Rattle.model.specs.declared.Hash.{Hash}
use Rattle.model.specs.declared.StuckFrontier.{StuckFrontier}
use Rattle.model.specs.declared.Blocked.{Blocked}
use Rattle.model.specs.declared.Blocked.TheVariants.{NoDecision, BlameStaller, BlamePendingTimeout, EvictStaged, HedgeColdFront}
use Rattle.watch.specs.declared.Stepped.{Stepped}

-- the answer that says a decision
abbrev pub blocked_of : Decision → Blocked
blocked_of none = NoDecision
blocked_of (blame_staller owner) = BlameStaller owner
blocked_of (blame_timeout owner) = BlamePendingTimeout owner
blocked_of (evict height h suppressed) = EvictStaged height h suppressed
blocked_of (hedges owner h) = HedgeColdFront owner h

-- it says just the model's values
pub blocked_told : (d : Decision) → blocked_answer (blocked_of d) ≡ says 0 (decision_values d)
blocked_told none = refl
blocked_told (blame_staller owner) = refl
blocked_told (blame_timeout owner) = refl
blocked_told (evict height h suppressed) = refl
blocked_told (hedges owner h) = refl

-- the stuck step at a height, with its eviction as an answer
abbrev pub stepped : ℕ → StuckStep → Stepped
stepped height s = record { stuck = s.stuck; answer = blocked_of (evict_says height s.evicted) }

-- a blame for the timeout answers, else the hedge
abbrev pub timeout_answer : Option ℕ → Blocked → Blocked
timeout_answer None hedge = hedge
timeout_answer (Some owner) hedge = BlamePendingTimeout owner

-- ---- the stuck step of a window at a hash, by its parts

module _ (height c : ℕ) {s still : Option StuckFrontier} {t : ℕ} {f : Option Hash} {h : Hash} {busy : Bool} (w : Window) (e : w.watch.stuck ≡ s) (r : w.settings.received_timeout ≡ t)
    (p : f ≡ Some h) where
  pub stuck_busy : {a : Stepped} → busy ≡ true → still ≡ stuck_still s height h busy c → a ≡ stepped height (evicted_by still h (t * 2) c)
      → a ≡ stepped height (advance_apply_side_stuck height f busy c w)
  stuck_busy q k m =
      let k' : still ≡ stuck_still w.watch.stuck height h true c = k ∙ (λ i. stuck_still (sym e i) height h (q i) c) in
      m ∙ (λ i. stepped height (evicted_by (k' i) h (sym r i * 2) c)) ∙ sym (λ i. stepped height (advance_apply_side_stuck height (p i) (q i) c w))

  pub stuck_idle : busy ≡ false → still ≡ stuck_still s height h busy c → stepped height (stuck_step still keeps) ≡ stepped height (advance_apply_side_stuck height f busy c w)
  stuck_idle q k =
      let k' : still ≡ stuck_still w.watch.stuck height h false c = k ∙ (λ i. stuck_still (sym e i) height h (q i) c) in
      (λ i. stepped height (stuck_step (k' i) keeps)) ∙ sym (λ i. stepped height (advance_apply_side_stuck height (p i) (q i) c w))

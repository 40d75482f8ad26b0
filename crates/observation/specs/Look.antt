-- What a look leaves and answers, case by case. Assumes nothing.
use Rattle.std.specs.Prelude.{◌≡◌, refl, Bool, true, false, cond, List, ℕ, None, Some, Option}
use Rattle.std.proofs.Common.{sym, ap, ◌∙◌}
use Rattle.std.proofs.Math.Path.{subst}
use Rattle.model.specs.Layout.{window_of}
use Rattle.model.specs.Window.{Window, with_stall, with_cold, with_stuck, with_observation}
use Rattle.model.specs.Races.{Hedge, is_racing, advance_cold_front}
use Rattle.model.specs.Observation.{Look, Blame, blame, Seen, Decision, advance_stall, advance_pending_timeout, hedge_says, timeout_seen, stall_seen, busy_seen, advance_apply_side_stuck, evict_says, idle_seen, observe_at, observe_blocked}
use Rattle.model.specs.Perform.{says, decision_values}
use Rattle.model.specs.Says.{blocked_answer}
use Rattle.model.specs.declared.Observation.TheVariants.{Unarmed}
use Rattle.model.specs.declared.ColdFront.TheVariants.{Idle}
use Rattle.model.specs.declared.Blocked.{Blocked}
use Rattle.laws.specs.Whole.{Holds}
use Rattle.watch.specs.Answers.{blocked_of, blocked_told, timeout_answer}
use Rattle.look_steps.specs.Steps.{Blames}
use Rattle.model.specs.declared.Hash.{Hash}

-- what is handed in with a look
abbrev pub look : Option ℕ → Option Hash → Bool → ℕ → Option ℕ → Look
look next frontier busy staged highest = record { next = next; frontier = frontier; busy = busy; staged = staged; highest = highest }

-- the words hold the window that a look leaves, and r answers its decision
pub record Sees (s : Seen) (ws : List ℕ) (r : Blocked) : Type 0 where
  pub left : Holds s.window ws
  pub told : r ≡ blocked_of s.decision

-- ---- busy

module _ (w : Window) {ws : List ℕ} where
  pub busy_racing : is_racing w.races.cold ≡ true → Holds (with_observation Unarmed (with_stall None w)) ws → (d : Decision) → Holds (busy_seen d w).window ws
  unfolding busy_seen
  busy_racing q h d = rw q h

  pub busy_idle : is_racing w.races.cold ≡ false → Holds (with_cold Idle (with_observation Unarmed (with_stall None w))) ws
      → (d : Decision) → Holds (busy_seen d w).window ws
  unfolding busy_seen
  busy_idle q h d = rw q h

-- ---- the answer

answer_is : (w : Window) (s : Option ℕ) (h : Hedge) → timeout_answer s (blocked_of (hedge_says h)) ≡ blocked_of (timeout_seen (blame w s) h).decision
answer_is w None h = refl
answer_is w (Some owner) h = refl

pub timeout_sees : {u : Blame} {ws : List ℕ} {r : Option ℕ} {hedge a : Blocked} (h : Hedge) → Blames u ws r → hedge ≡ blocked_of (hedge_says h)
    → a ≡ timeout_answer r hedge → Sees (timeout_seen u h) ws a
timeout_sees {u} h b e q =
    record { left = b.left; told = q ∙ (λ i. timeout_answer (b.told i) (e i)) ∙ answer_is u.window u.blamed h }

-- without a staller the pending timeout follows
pub late_sees : {b : Blame} {ws ws' : List ℕ} {s r : Option ℕ} {hedge a : Blocked} (c : ℕ) (h : Hedge) → Blames b ws s → s ≡ None
    → Blames (advance_pending_timeout c (window_of ws)) ws' r → hedge ≡ blocked_of (hedge_says h) → a ≡ timeout_answer r hedge
    → Sees (stall_seen b.blamed b.window h c) ws' a
late_sees {b} {ws} {ws'} {r = r} c h first m second e q =
    let t = subst (λ (v : Window). Blames (advance_pending_timeout c v) ws' r) first.left.is second in
    rw (sym first.told ∙ m) (timeout_sees h t e q)

-- ---- the whole look

pub idle_sees : {ws ws' : List ℕ} {a : Blocked} (l : Look) (next c : ℕ) (w : Window) → Holds (with_cold (advance_cold_front next c w).cold w) ws
    → Sees (stall_seen (advance_stall next l.staged l.highest c (window_of ws)).blamed (advance_stall next l.staged l.highest c (window_of ws)).window (advance_cold_front next c w).asks c) ws' a
    → Sees (idle_seen l next c w) ws' a
unfolding idle_seen
idle_sees {ws} {ws'} {a} l next c w h k =
    subst (λ (v : Window). Sees (stall_seen (advance_stall next l.staged l.highest c v).blamed (advance_stall next l.staged l.highest c v).window (advance_cold_front next c w).asks c) ws' a) h.is k

module _ (l : Look) (c : ℕ) (w : Window) {ws' : List ℕ} {a : Blocked} where
  pub unplaced_sees : l.next ≡ None → Sees (observe_at None l c w) ws' a → Sees (observe_blocked l c w) ws' a
  unfolding observe_blocked
  unplaced_sees e k = subst (λ (n : Option ℕ). Sees (observe_at n l c w) ws' a) (sym e) k

  module _ (next : ℕ) {ws : List ℕ} (e : l.next ≡ Some next)
      (h : Holds (with_stuck (advance_apply_side_stuck next l.frontier l.busy c w).stuck w) ws) where
    pub busy_sees : l.busy ≡ true → a ≡ blocked_of (evict_says next (advance_apply_side_stuck next l.frontier l.busy c w).evicted)
        → ((d : Decision) → Holds (busy_seen d (window_of ws)).window ws') → Sees (observe_blocked l c w) ws' a
    unfolding observe_blocked busy_seen
    busy_sees q t k =
        let s = advance_apply_side_stuck next l.frontier l.busy c w in
        let d = evict_says next s.evicted in
        let v = with_stuck s.stuck w in
        let x : Sees (busy_seen d v) ws' a = record { left = subst (λ (u : Window). Holds (busy_seen d u).window ws') h.is (k d); told = t } in
        subst (λ (n : Option ℕ). Sees (observe_at n l c w) ws' a) (sym e) (subst (λ (b : Bool). Sees (cond b (busy_seen d v) (idle_seen l next c v)) ws' a) (sym q) x)

    pub quiet_sees : l.busy ≡ false → Sees (idle_seen l next c (window_of ws)) ws' a → Sees (observe_blocked l c w) ws' a
    unfolding observe_blocked
    quiet_sees q k =
        let s = advance_apply_side_stuck next l.frontier l.busy c w in
        let d = evict_says next s.evicted in
        let v = with_stuck s.stuck w in
        let x = subst (λ (u : Window). Sees (idle_seen l next c u) ws' a) h.is k in
        subst (λ (n : Option ℕ). Sees (observe_at n l c w) ws' a) (sym e) (subst (λ (b : Bool). Sees (cond b (busy_seen d v) (idle_seen l next c v)) ws' a) (sym q) x)

-- what is seen, in the words of the public promise
pub seen_says : {s : Seen} {ws : List ℕ} {a : Blocked} → Sees s ws a → Holds s.window ws × (blocked_answer a ≡ says 0 (decision_values s.decision))
seen_says {s} k = (k.left, ap blocked_answer k.told ∙ blocked_told s.decision)

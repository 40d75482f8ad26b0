-- Whole seats dropped, on words that hold a window. Assumes nothing.
use Rattle.std.specs.Prelude.{◌≡◌, refl, Bool, true, false, cond, not, ◌&&◌, ◌||◌, List, [], ◌∷◌, map, ℕ, zero, suc, ◌+◌, ◌≤◌, ◌<◌, length, take, get_or, eqb, ltb, leb, None, Some, Option}
use Rattle.std.proofs.Common.{sym, ◌∙◌, inl, inr, arith, lt-ltb, le-ltb, leb-true, leb-false}
use Rattle.std.proofs.Math.Path.{ap, subst}
use Rattle.std.proofs.Math.ListN.{get_or-eq_default}
use Rattle.model.specs.Numbers.{max_clock, max_seat, present}
use Rattle.model.specs.Lists.{count}
use Rattle.model.specs.Seats.{keep_seats}
use Rattle.model.specs.LettingGo.{extract, lost_reason, flagged, observation_kept, seats_kept, retain_peer_assignments, cold_kept, peer_kept, probe_kept, roles_kept, retain_owned_by}
use Rattle.model.specs.Window.{Window, Step, queue, with_queue, with_observation, with_cold, with_preferred, with_attempted, with_probe, without_probe, probing}
use Rattle.model.specs.Layout.{window_of, source_word}
use Rattle.model.specs.declared.Entry.{Entry}
use Rattle.model.specs.declared.ColdFront.{ColdFront}
use Rattle.model.specs.declared.ColdFront.TheVariants.{Idle, Waiting, Racing}
use Rattle.model.specs.declared.PrefixProbe.{PrefixProbe}
use Rattle.model.specs.declared.Observation.{Observation}
use Rattle.laws.specs.Numbers.{both, and_left, and_right}
use Rattle.laws.specs.Sound.{Sound, SoundCold, SoundSource}
use Rattle.laws.specs.Marks.{extract_by, extract_marked}
use Rattle.laws.specs.Pending.{Ranged, pending_few}
use Rattle.laws.specs.Whole.{Whole, Holds}
use Rattle.states.specs.Fits.{cold_fits}
use Rattle.report_words.specs.Report.{releases_of}

-- what the roles must be so that they can be written: times are clocks, peers are seats
pub record Roles (w : Window) : Type 0 where
  pub cold : cold_fits w.races.cold
  pub preferred : source_word w.races.preferred ≤ 256
  pub attempted : source_word w.races.attempted ≤ 256

cold_written : (c : ℕ) (x : ColdFront) → c ≤ max_clock → SoundCold c x → cold_fits x
cold_written c Idle h k = tt
cold_written c (Waiting owner x since) h k = omega arith
cold_written c (Racing owner alternate x) h k = tt

source_written : (x : Option ℕ) → SoundSource x → source_word x ≤ 256
source_written None k = omega arith
source_written (Some s) k = omega arith

pub sound_roles : (c : ℕ) (w : Window) → Sound c w → Roles w
sound_roles c w g = record {
  cold = cold_written c w.races.cold g.clock g.races.cold;
  preferred = source_written w.races.preferred g.races.preferred;
  attempted = source_written w.races.attempted g.races.attempted;
}

-- a seat past the flags is not kept
pub not_flagged : (fs : List ℕ) (s : ℕ) → length fs ≡ 256 → 255 < s → false ≡ flagged fs s
unfolding flagged
not_flagged fs s n h = rw (get_or-eq_default fs 0 {n = s} (omega arith))

-- ---- what is kept can be written too

pub cold_kept_fits : (owns : ℕ → Bool) (x : ColdFront) → cold_fits x → cold_fits (cold_kept owns x)
cold_kept_fits owns Idle k = k
cold_kept_fits owns (Waiting owner h since) k = elim (both (owns owner)) [ inl q ↦ rw q k | inr q ↦ rw q tt ]
cold_kept_fits owns (Racing owner alternate h) k = elim (both (owns owner && owns alternate)) [ inl q ↦ rw q tt | inr q ↦ rw q tt ]

pub peer_kept_fits : (owns : ℕ → Bool) (x : Option ℕ) → source_word x ≤ 256 → source_word (peer_kept owns x) ≤ 256
peer_kept_fits owns None k = k
peer_kept_fits owns (Some s) k = elim (both (owns s)) [ inl q ↦ rw q k | inr q ↦ rw q (omega arith) ]

-- ---- entries, seats, observation

module _ (fs : List ℕ) (reason : ℕ) (ws ms core : List ℕ) (n : ℕ) (k : length ms ≡ 256)
    (m : take (length (window_of ws).queue.pending) ms ≡ map (lost_reason (flagged fs) reason) (window_of ws).queue.pending)
    (g : releases_of n core ≡ (extract_by ms (window_of ws)).gone) where
  lost_is : extract_by ms (window_of ws) ≡ extract (lost_reason (flagged fs) reason) (window_of ws)
  lost_is = extract_marked (lost_reason (flagged fs) reason) ms (window_of ws) (omega (arith, pending_few ws)) m

  pub retained_gone : releases_of n core ≡ (retain_peer_assignments (flagged fs) reason (window_of ws)).gone
  unfolding retain_peer_assignments
  retained_gone = g ∙ ap (λ (s : Step). s.gone) lost_is

  pub retained_holds : (o x : Observation) (ws₁ ws₂ ws₃ : List ℕ) → Holds (extract_by ms (window_of ws)).window ws₁
      → Holds (with_queue (queue (window_of ws₁).queue.total (window_of ws₁).queue.pending (keep_seats (flagged fs) 0 (window_of ws₁).queue.starts) (keep_seats (flagged fs) 0 (window_of ws₁).queue.bodies)) (window_of ws₁)) ws₂
      → o ≡ (window_of ws₂).watch.observation → x ≡ observation_kept (flagged fs) o → Holds (with_observation x (window_of ws₂)) ws₃
      → Holds (retain_peer_assignments (flagged fs) reason (window_of ws)).window ws₃
  unfolding retain_peer_assignments seats_kept
  retained_holds o x ws₁ ws₂ ws₃ a b p q c =
      let owns = flagged fs in
      let seated : Window → Window = λ v. with_queue (queue v.queue.total v.queue.pending (keep_seats owns 0 v.queue.starts) (keep_seats owns 0 v.queue.bodies)) v in
      let v = (extract_by ms (window_of ws)).window in
      let then : window_of ws₂ ≡ seated v = b.is ∙ ap seated a.is in
      let saw : x ≡ observation_kept owns v.watch.observation = q ∙ ap (observation_kept owns) (p ∙ ap (λ (u : Window). u.watch.observation) then) in
      subst (λ (s : Step). Holds (seats_kept owns s.window) ws₃) lost_is (subst (λ (u : Window). Holds u ws₃) (λ i. with_observation (saw i) (then i)) c)

-- ---- roles

module _ (fs : List ℕ) (ws : List ℕ) where
  abbrev owns : ℕ → Bool
  owns = flagged fs

  abbrev w : Window
  w = window_of ws

  abbrev rs : List ℕ
  rs = keep_seats (flagged fs) 0 (window_of ws).races.racers

  -- without a probe, nothing
  pub probe_none : (p : Option PrefixProbe) → p ≡ w.races.probe → p ≡ None → Holds w ws → Holds (probe_kept owns w.races.probe rs w) ws
  probe_none p e z h = subst (λ (q : Option PrefixProbe). Holds (probe_kept owns q rs w) ws) (sym z ∙ e) h

  module _ (owner accepted started : ℕ) (p : Option PrefixProbe) (e : p ≡ w.races.probe) (z : p ≡ probing owner accepted started) (owned : Bool) (o : owned ≡ owns owner) (n : ℕ) (c : n ≡ count present rs) where
    -- one whose owner is kept, and two racers or more
    pub probe_stays : (ws₁ : List ℕ) → (owned && leb 2 n) ≡ true → Holds (with_probe w.races.probe w.races.planned rs w) ws₁ → Holds (probe_kept owns w.races.probe rs w) ws₁
    probe_stays ws₁ t h =
        let i = rw o at (and_left owned (leb 2 n) t) in
        let j : ltb (count present rs) 2 ≡ false = le-ltb (count present rs) 2 (omega (arith, leb-true 2 n (and_right owned (leb 2 n) t))) in
        let h' = rw (sym e ∙ z) at h in
        rw (sym e ∙ z) (simp (i, j) h')

    -- another
    pub probe_goes : (ws₁ ws₂ : List ℕ) → (owned && leb 2 n) ≡ false → Holds (with_probe w.races.probe w.races.planned rs w) ws₁ → Holds (without_probe (window_of ws₁)) ws₂
        → Holds (probe_kept owns w.races.probe rs w) ws₂
    probe_goes ws₁ ws₂ t a b =
        let gone : Holds (without_probe w) ws₂ = subst (λ (v : Window). Holds v ws₂) (ap without_probe a.is) b in
        rw (sym e ∙ z) (elim (both (owns owner)) [
          | inl i ↦
              let k : leb 2 n ≡ false = rw (o ∙ i) at t in
              let j : ltb (count present rs) 2 ≡ true = lt-ltb (count present rs) 2 (omega (arith, leb-false 2 n k)) in
              simp (i, j) gone
          | inr i ↦ rw i gone
        ])

-- the four in order
pub roles_hold : (fs ws ws₁ ws₂ ws₃ ws₄ : List ℕ) (c c' : ColdFront) (p p' a a' : Option ℕ) → c ≡ (window_of ws).races.cold → c' ≡ cold_kept (flagged fs) c
    → p ≡ (window_of ws).races.preferred → p' ≡ peer_kept (flagged fs) p → a ≡ (window_of ws).races.attempted → a' ≡ peer_kept (flagged fs) a
    → Holds (with_cold c' (window_of ws)) ws₁ → Holds (with_preferred p' (window_of ws₁)) ws₂ → Holds (with_attempted a' (window_of ws₂)) ws₃
    → Holds (probe_kept (flagged fs) (window_of ws₃).races.probe (keep_seats (flagged fs) 0 (window_of ws₃).races.racers) (window_of ws₃)) ws₄
    → Holds (roles_kept (flagged fs) (window_of ws)) ws₄
unfolding roles_kept
roles_hold fs ws ws₁ ws₂ ws₃ ws₄ c c' p p' a a' qc kc qp kp qa ka h₁ h₂ h₃ h₄ =
    let owns = flagged fs in
    let w = window_of ws in
    let x = kc ∙ ap (cold_kept owns) qc in
    let y = kp ∙ ap (peer_kept owns) qp in
    let z = ka ∙ ap (peer_kept owns) qa in
    let one : window_of ws₁ ≡ with_cold (cold_kept owns w.races.cold) w = h₁.is ∙ ap (λ (v : ColdFront). with_cold v w) x in
    let two = h₂.is ∙ (λ i. with_preferred (y i) (one i)) in
    let three = h₃.is ∙ (λ i. with_attempted (z i) (two i)) in
    subst (λ (v : Window). Holds (probe_kept owns v.races.probe (keep_seats owns 0 v.races.racers) v) ws₄) three h₄

-- ---- roles, then the rest

module _ (owns : ℕ → Bool) where
  probe_same : (p : Option PrefixProbe) (rs : List ℕ) (v : Window) → (probe_kept owns p rs v).queue.pending ≡ v.queue.pending
  probe_same None rs v = refl
  probe_same (Some p) rs v = elim (both (not (owns p.owner) || ltb (count present rs) 2)) [ inl q ↦ rw q | inr q ↦ rw q ]

  roles_same : (w : Window) → (roles_kept owns w).queue.pending ≡ w.queue.pending
  unfolding roles_kept
  roles_same w = probe_same w.races.probe (keep_seats owns 0 w.races.racers) _

pub roles_ranged : (fs ws ws₁ : List ℕ) → Ranged (window_of ws) → Holds (roles_kept (flagged fs) (window_of ws)) ws₁ → Ranged (window_of ws₁)
roles_ranged fs ws ws₁ a h = rw (h.is, roles_same (flagged fs) (window_of ws)) a

pub owned_is : (fs ws ws₁ : List ℕ) → Holds (roles_kept (flagged fs) (window_of ws)) ws₁ → retain_peer_assignments (flagged fs) 8 (window_of ws₁) ≡ retain_owned_by fs (window_of ws)
unfolding retain_owned_by
owned_is fs ws ws₁ h = ap (retain_peer_assignments (flagged fs) 8) h.is

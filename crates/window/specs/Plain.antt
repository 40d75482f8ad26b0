-- What the promises of the hedge, the look and the probe come to, from the steps on the words. Assumes nothing.
use Rattle.std.specs.Prelude.{◌≡◌, refl, Bool, true, false, cond, not, ◌&&◌, List, [], ◌∷◌, ◌++◌, ℕ, ◌≤◌, length, leb}
use Rattle.std.proofs.Common.{sym, ap, subst, ◌∙◌}
use Rattle.std.proofs.Math.Bool.{and-true}
use Rattle.model.specs.Numbers.{max_seat, read_clock}
use Rattle.model.specs.Lists.{all, any, every}
use Rattle.model.specs.Hash.{same}
use Rattle.model.specs.Window.{Window, with_clock, with_hedged}
use Rattle.model.specs.Layout.{window_of}
use Rattle.model.specs.Races.{max_hedges, waits_for, hedge_begun, confirm_cold_front_hedge, confirm_prefix_probe}
use Rattle.model.specs.Observation.{Look, observe_blocked}
use Rattle.model.specs.Refusals.{changes, checks, window_refusal, Moment, checking, nothing, seat_ok, alternates_ok, confirms_probe, confirms_hedge, observes}
use Rattle.model.specs.Perform.{Answer, changed, observed, says, decision_values}
use Rattle.model.specs.declared.Hash.{Hash}
use Rattle.laws.specs.Numbers.{and_left, and_right}
use Rattle.laws.specs.Every.{hold}
use Rattle.laws.specs.Kept.{seat_le}
use Rattle.laws.specs.Whole.{Holds}
use Rattle.refusals.specs.Outcomes.{Performed, changed_so, clock_set}

-- the code's two tests of peers, as the definition has them; y is the second as the code found it
pub both_ok : (m : Moment) (x y z : Bool) → y ≡ z → (ws : List ℕ) (n : ℕ) → n ≡ window_refusal (checking false m (x && y) nothing) ws 0
    → n ≡ window_refusal (checking false m (every (x ∷ z ∷ [])) nothing) ws 0
unfolding every
both_ok m x y z q ws n e = e ∙ ap (λ (b : Bool). window_refusal (checking false m (x && b) nothing) ws 0) (q ∙ sym (and-true z))

-- ---- the hedge, which takes no clock and leaves the last one

clock_of : (a b d : Bool) (w u v : Window) → u.clock ≡ w.clock → v.clock ≡ w.clock → (cond a w (cond b u (cond d w v))).clock ≡ w.clock
clock_of true b d w u v p q = refl
clock_of false true d w u v p q = p
clock_of false false true w u v p q = refl
clock_of false false false w u v p q = q

hedge_clock : (owner alternate : ℕ) (h : Hash) (w : Window) → (confirm_cold_front_hedge owner alternate h w).clock ≡ w.clock
unfolding confirm_cold_front_hedge hedge_begun
hedge_clock owner alternate h w =
    clock_of (not (waits_for w.races.cold owner h)) (any (λ x. same x h) w.races.hedged) (leb max_hedges (length w.races.hedged))
    w (hedge_begun owner alternate h w) (hedge_begun owner alternate h (with_hedged (w.races.hedged ++ (h ∷ [])) w)) refl refl

pub hedge_so : (owner alternate : ℕ) (h : Hash) (ws ws' : List ℕ) (n : ℕ) → n ≡ window_refusal (checks (confirms_hedge owner alternate h)) ws 0 → n ≡ 0
    → Holds (confirm_cold_front_hedge owner alternate h (window_of ws)) ws' → Performed (changes (confirms_hedge owner alternate h)) ws (says 0 []) ws'
unfolding changed
hedge_so owner alternate h ws ws' n e z k =
    let v = confirm_cold_front_hedge owner alternate h (window_of ws) in
    changed_so (confirms_hedge owner alternate h) ws ws' n (says 0 []) e z refl
    (subst (λ (c : ℕ). Holds (with_clock c v) ws') (hedge_clock owner alternate h (window_of ws)) k)

-- ---- the look; m is what the code sees, with its heights widened

pub look_so : (c : ℕ) (m l : Look) → m ≡ l → (ws ws₁ ws₂ : List ℕ) (n : ℕ) → n ≡ window_refusal (checks (observes c l)) ws 0 → n ≡ 0
    → (a : Answer) → Holds (observe_blocked m c (window_of ws)).window ws₁ × (a ≡ says 0 (decision_values (observe_blocked m c (window_of ws)).decision))
    → Holds (with_clock c (window_of ws₁)) ws₂ → Performed (changes (observes c l)) ws a ws₂
unfolding changed observed read_clock
look_so c m l y ws ws₁ ws₂ n e z a q t =
    let p = subst (λ (x : Look). Holds (observe_blocked x c (window_of ws)).window ws₁ × (a ≡ says 0 (decision_values (observe_blocked x c (window_of ws)).decision))) y q in
    changed_so (observes c l) ws ws₂ n a e z p.1 (clock_set c (observe_blocked l c (window_of ws)).window ws₁ ws₂ p.0 t)

-- ---- the probe

-- what the step asks of the peers; b is what the code found of the alternates
pub probe_peers : (owner : ℕ) (b : Bool) (l : List ℕ) → b ≡ alternates_ok l → (seat_ok owner && b) ≡ true → (owner ≤ max_seat) × (all seat_ok l ≡ true)
unfolding alternates_ok
probe_peers owner b l e h = (seat_le owner (and_left (seat_ok owner) b h), hold _ (sym e ∙ and_right (seat_ok owner) b h) 1)

pub probe_so : (c owner : ℕ) (given alternates : List ℕ) (ws ws₁ ws₂ : List ℕ) (n : ℕ) → n ≡ window_refusal (checks (confirms_probe c owner given alternates)) ws 0 → n ≡ 0
    → Holds (confirm_prefix_probe owner given alternates c (window_of ws)) ws₁ → Holds (with_clock c (window_of ws₁)) ws₂
    → Performed (changes (confirms_probe c owner given alternates)) ws (says 0 []) ws₂
unfolding changed read_clock
probe_so c owner given alternates ws ws₁ ws₂ n e z h l =
    changed_so (confirms_probe c owner given alternates) ws ws₂ n (says 0 []) e z refl
    (clock_set c (confirm_prefix_probe owner given alternates c (window_of ws)) ws₁ ws₂ h l)

-- What a call that sweeps and plans promises, before its report is written: `LetsGo`, and its plan in the two lists that are lent for it. Generic
-- over the call. Assumes nothing.
use Rattle.std.specs.Prelude.{◌≡◌, Bool, true, false, ℕ, zero, suc, ◌*◌, ◌≤◌, length, drop, Result, IsErrAnd}
use Rattle.std.proofs.Math.Path.{refl, ap}
use Rattle.std.proofs.Common.{sym, subst, ◌∙◌, arith}
use mathlib.Core.List.{List, [], ◌++◌}
use Rattle.model.specs.Numbers.{read_clock}
use Rattle.model.specs.Window.{Window, with_clock}
use Rattle.model.specs.Layout.{window_of}
use Rattle.model.specs.Calls.{Ask}
use Rattle.model.specs.Planning.{Lent, Proposal, ask_hashes, ask_heights, written}
use Rattle.model.specs.Refusals.{Change, changes, plans, plans_retry, Moment, Checks, at, checks, checking, seat_ok, plan_refusal, window_refusal}
use Rattle.model.specs.Perform.{Deed, Answer, refused, says, change, moment_of, changed, proposes, plan_after, perform}
use Rattle.model.specs.Says.{number, says_by, next_request_answer}
use Rattle.model.specs.declared.NextRequest.{NextRequest}
use Rattle.model.specs.declared.Refusal.{Refusal}
use Rattle.model.specs.declared.Release.{Release}
use Rattle.laws.specs.Whole.{Holds}
use Rattle.refusals.specs.Passed.{number_some, says_refused}
use Rattle.report_words.specs.Report.{releases_of}
use Rattle.letting_go.specs.Letting.{places, LetsGo, lets_refused, lets_at, lets_performs}
use Rattle.planning.specs.Proposes.{planned_by, Proposes}

-- the change that it is, with a retry allowed or not
abbrev pub plans_by : Bool → ℕ → ℕ → Lent → ℕ → ℕ → Change
plans_by true c source l hash_words heights = plans_retry c source l hash_words heights
plans_by false c source l hash_words heights = plans c source l hash_words heights

-- the promise: that of a call that lets go; then the lists of hashes and heights, as they were lent and as they are left
abbrev pub PlansGo : ℕ → Change → List ℕ → ℕ → Answer → List ℕ → List ℕ → List ℕ → List ℕ → List ℕ → List ℕ → Type 0
PlansGo size x ws room a ws' gone hashes hashes' heights heights' =
    LetsGo size x ws room a ws' gone
    × (hashes' ≡ written (ask_hashes (plan_after (changes x) ws room)) hashes)
    × (heights' ≡ written (ask_heights (plan_after (changes x) ws room)) heights)

module _ (size : ℕ) (x : Change) (ws : List ℕ) (room : ℕ) where
  refused_suc : (k : ℕ) → suc k ≡ window_refusal (checks x) ws room → [] ≡ plan_after (changes x) ws room
  unfolding plan_after
  refused_suc k e = rw (← e) refl

  -- a refused one plans nothing
  plan_refused : (n : ℕ) → n ≡ window_refusal (checks x) ws room → (n ≡ 0 → ⊥) → [] ≡ plan_after (changes x) ws room
  plan_refused zero e h = absurd (h refl)
  plan_refused (suc k) e h = refused_suc k e

  plan_changed : 0 ≡ window_refusal (checks x) ws room → (changed x (window_of ws)).plan ≡ plan_after (changes x) ws room
  unfolding plan_after
  plan_changed e = rw (← e) refl

  plan_at : (c : ℕ) → (checks x).moment ≡ at c → (change x c (window_of ws)).plan ≡ (changed x (window_of ws)).plan
  unfolding changed read_clock
  plan_at c m = ap (λ (y : Moment). (change x (moment_of y (window_of ws).clock) (window_of ws)).plan) (sym m)

  module _ (n : ℕ) (e : n ≡ window_refusal (checks x) ws room) where
    -- nothing is written
    pub plans_refused : (gone hashes heights : List ℕ) → (n ≡ 0 → ⊥) → PlansGo size x ws room (refused n) ws gone hashes hashes heights heights
    unfolding ask_hashes ask_heights written
    plans_refused gone hashes heights h =
        let q = plan_refused n e h in (
          lets_refused size x ws room n e gone h,
          ap (λ (plan : List Ask). written (ask_hashes plan) hashes) q,
          ap (λ (plan : List Ask). written (ask_heights plan) heights) q,
        )

    -- the step, then the clock
    pub plans_at : n ≡ 0 → (checks x).lets_go ≡ true → (k : ℕ) (gone : List ℕ) → k ≤ 256 → 9 * k ≤ size → (c : ℕ) → (checks x).moment ≡ at c → (ws₁ ws₂ : List ℕ)
        → Holds (change x c (window_of ws)).window ws₁ → Holds (with_clock c (window_of ws₁)) ws₂ → releases_of k gone ≡ (change x c (window_of ws)).gone
        → (a : Answer) → a ≡ says k (change x c (window_of ws)).values → (hashes hashes' heights heights' : List ℕ)
        → hashes' ≡ written (ask_hashes (change x c (window_of ws)).plan) hashes → heights' ≡ written (ask_heights (change x c (window_of ws)).plan) heights
        → PlansGo size x ws room a ws₂ gone hashes hashes' heights heights'
    plans_at z goes k gone few fit c m ws₁ ws₂ h s g a q hashes hashes' heights heights' i j =
        let p = plan_at c m ∙ plan_changed (sym z ∙ e) in (
          lets_at size x ws room n e z goes k gone few fit c m ws₁ ws₂ h s g a q,
          i ∙ ap (λ (plan : List Ask). written (ask_hashes plan) hashes) p,
          j ∙ ap (λ (plan : List Ask). written (ask_heights plan) heights) p,
        )

-- of words taken as an array
pub plans_in : (size : ℕ) (x : Change) (ws array : List ℕ) (room : ℕ) (a : Answer) (ws' gone hashes hashes' heights heights' : List ℕ) → array ≡ ws
    → PlansGo size x array room a ws' gone hashes hashes' heights heights' → PlansGo size x ws room a ws' gone hashes hashes' heights heights'
plans_in size x ws array room a ws' gone hashes hashes' heights heights' e h = subst (λ (y : List ℕ). PlansGo size x y room a ws' gone hashes hashes' heights heights') e h

-- a refusal that `?` hands on: nothing is written
module _ {A : Type 0} (r : Result A Refusal) (e : Refusal) (told : IsErrAnd r (λ f. f ≡ e)) where
  pub plans_passed : (f : A → Answer) (size : ℕ) (x : Change) (ws : List ℕ) (room : ℕ) (gone hashes heights : List ℕ) → number e ≡ window_refusal (checks x) ws room
      → PlansGo size x ws room (says_by f r) ws gone hashes hashes heights heights
  plans_passed f size x ws room gone hashes heights h = rw (says_refused r e told f) (plans_refused size x ws room (number e) h gone hashes heights (number_some e))

-- ---- a call with a clock that was admitted: it plans, then the clock is set

module _ (size : ℕ) (x : Change) (ws : List ℕ) (room n : ℕ) (e : n ≡ window_refusal (checks x) ws room) (z : n ≡ 0) (goes : (checks x).lets_go ≡ true) (c : ℕ) (m : (checks x).moment ≡ at c) where
  pub plans_step : size ≡ 2304 → (p : Proposal) → proposes p ≡ change x c (window_of ws) → (r : NextRequest) (ws₁ ws₂ gone hashes hashes' heights heights' : List ℕ)
      → Proposes p r ws₁ gone hashes hashes' heights heights' → Holds (with_clock c (window_of ws₁)) ws₂
      → PlansGo size x ws room (next_request_answer r) ws₂ gone hashes hashes' heights heights'
  unfolding proposes
  plans_step fit p q r ws₁ ws₂ gone hashes hashes' heights heights' s t =
      plans_at size x ws room n e z goes r.places gone s.0 (omega (arith, s.0)) c m ws₁ ws₂ (subst (λ (d : Deed). Holds d.window ws₁) q s.1) t
      (s.2 ∙ ap (λ (d : Deed). d.gone) q) (next_request_answer r) (ap (says r.places) (s.5 ∙ ap (λ (d : Deed). d.values) q)) hashes hashes' heights heights'
      (s.3 ∙ ap (λ (d : Deed). written (ask_hashes d.plan) hashes) q) (s.4 ∙ ap (λ (d : Deed). written (ask_heights d.plan) heights) q)

-- the call of either kind, with the refusals that both have
module _ (retry : Bool) (c source : ℕ) (l : Lent) (hash_words heights : ℕ) where
  pub checks_by : checks (plans_by retry c source l hash_words heights) ≡ checking true (at c) (seat_ok source) (plan_refusal l hash_words heights)
  checks_by = by retry
    where
      by : (b : Bool) → checks (plans_by b c source l hash_words heights) ≡ checking true (at c) (seat_ok source) (plan_refusal l hash_words heights)
      by true = refl
      by false = refl

  pub refused_by : (ws : List ℕ) (room n : ℕ) → n ≡ window_refusal (checking true (at c) (seat_ok source) (plan_refusal l hash_words heights)) ws room
      → n ≡ window_refusal (checks (plans_by retry c source l hash_words heights)) ws room
  refused_by ws room n e = e ∙ ap (λ (k : Checks). window_refusal k ws room) (sym checks_by)

  pub proposes_by : (w : Window) → proposes (planned_by retry source l c w) ≡ change (plans_by retry c source l hash_words heights) c w
  proposes_by w = by retry
    where
      by : (b : Bool) → proposes (planned_by b source l c w) ≡ change (plans_by b c source l hash_words heights) c w
      by true = refl
      by false = refl

-- ---- the whole call

-- answer, words, report and the plan's two lists are those of the definitions
abbrev pub PlansDone : Change → List ℕ → List Release → List ℕ → List ℕ → Answer → List ℕ → List Release → List ℕ → List ℕ → Type 0
PlansDone x ws xs hs ts a ws' xs' hs' ts' =
    (a ≡ (perform (changes x) ws xs).answer)
    × (ws' ≡ (perform (changes x) ws xs).words)
    × (xs' ≡ (perform (changes x) ws xs).report)
    × (hs' ≡ written (ask_hashes (perform (changes x) ws xs).plan) hs)
    × (ts' ≡ written (ask_heights (perform (changes x) ws xs).plan) ts)

-- ---- with the report: m releases are written in its first places (`lets_fewer` at `e.0` gives the writer its room)

module _ (size : ℕ) (x : Change) (ws : List ℕ) (xs : List Release) (a : Answer) (zs gs hs hs' ts ts' : List ℕ) (e : PlansGo size x ws (length xs) a zs gs hs hs' ts ts') (m : ℕ) (q : m ≡ places a) where
  pub plans_performs : (ys : List Release) → ys ≡ releases_of m gs ++ drop m xs → PlansDone x ws xs hs ts a zs ys hs' ts'
  unfolding perform
  plans_performs ys w = let k = lets_performs size x ws xs a zs gs e.0 m q ys w in (k.0, k.1, k.2, e.1, e.2)

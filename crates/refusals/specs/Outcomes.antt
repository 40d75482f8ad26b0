-- What a refused call, and an accepted one, answers and leaves: the laws that the public functions' returns name. Assumes nothing.
use Rattle.std.specs.Prelude.{◌≡◌, refl, List, [], ◌++◌, ℕ, zero, suc, length, drop}
use Rattle.std.proofs.Common.{sym, ap, subst, ◌∙◌, eqb-true}
use Rattle.model.specs.Window.{Window, with_clock}
use Rattle.model.specs.Layout.{encode, window_of, is_window}
use Rattle.model.specs.Queries.{Query, query_values}
use Rattle.model.specs.Refusals.{Change, Call, opens, changes, queries, Checks, checks, query_checks, is_long, window_refusal, opening_refusal, refusal}
use Rattle.model.specs.Perform.{Answer, refused, says, moment_of, changed, words_after, gone_after, answer_after, perform}
use Rattle.model.specs.Calls.{opened}
use Rattle.model.specs.declared.Release.{Release}
use Rattle.model.specs.declared.Settings.{Settings}
use Rattle.laws.specs.Sound.{Sound}
use Rattle.laws.specs.Parts.{later}
use Rattle.laws.specs.Whole.{Whole, Holds, window_whole}
use Rattle.laws.specs.Kept.{Accepted, accepted_is, passed, moment_later}

-- ---- the three parts of an outcome that do not need the report itself

abbrev pub Leaves : Call → List ℕ → ℕ → Answer → List ℕ → List Release → Type 0
Leaves call ws room a ws' gs = (a ≡ answer_after call ws room) × (ws' ≡ words_after call ws room) × (gs ≡ gone_after call ws room)

refused_suc : (call : Call) (ws : List ℕ) (room k : ℕ) → suc k ≡ refusal call ws room → Leaves call ws room (refused (suc k)) ws []
unfolding answer_after words_after gone_after
refused_suc call ws room k e = (rw (← e), rw (← e), rw (← e))

-- a refusal's number, and nothing changed
pub leaves_refused : (call : Call) (ws : List ℕ) (room n : ℕ) → n ≡ refusal call ws room → (n ≡ 0 → ⊥) → Leaves call ws room (refused n) ws []
leaves_refused call ws room zero e h = absurd (h refl)
leaves_refused call ws room (suc k) e h = refused_suc call ws room k e

pub leaves_changed : (x : Change) (ws : List ℕ) (room : ℕ) → 0 ≡ window_refusal (checks x) ws room
    → Leaves (changes x) ws room (says (length (changed x (window_of ws)).gone) (changed x (window_of ws)).values) (encode (changed x (window_of ws)).window) (changed x (window_of ws)).gone
unfolding answer_after words_after gone_after
leaves_changed x ws room e = (rw (← e), rw (← e), rw (← e))

pub leaves_asked : (q : Query) (ws : List ℕ) (room : ℕ) → 0 ≡ window_refusal (query_checks q) ws room
    → Leaves (queries q) ws room (says 0 (query_values q (window_of ws))) ws []
unfolding answer_after words_after gone_after
leaves_asked q ws room e = (rw (← e), rw (← e), rw (← e))

pub leaves_opened : (c : ℕ) (b : Settings) (keys ws : List ℕ) (room : ℕ) → 0 ≡ opening_refusal c b keys ws
    → Leaves (opens c b keys) ws room (says 0 []) (encode (opened c b keys)) []
unfolding answer_after words_after gone_after
leaves_opened c b keys ws room e = (rw (← e), rw (← e), rw (← e))

-- the parts, as the promise of a public function with a report has them
pub performs : (call : Call) (ws : List ℕ) (xs : List Release) (a : Answer) (ws' : List ℕ) (gs : List Release) → Leaves call ws (length xs) a ws' gs
    → (a ≡ (perform call ws xs).answer) × (ws' ≡ (perform call ws xs).words) × (gs ++ drop (length gs) xs ≡ (perform call ws xs).report)
unfolding perform
performs call ws xs a ws' gs e = (e.0, e.1, ap (λ (l : List Release). l ++ drop (length l) xs) e.2)

-- ---- without a report: `[]` in its place

pub query_refused : (q : Query) (ws : List ℕ) (n : ℕ) → n ≡ window_refusal (query_checks q) ws 0 → (n ≡ 0 → ⊥) → refused n ≡ (perform (queries q) ws []).answer
unfolding perform
query_refused q ws n e h = (leaves_refused (queries q) ws 0 n e h).0

pub query_answered : (q : Query) (ws : List ℕ) (n : ℕ) (a : Answer) → n ≡ window_refusal (query_checks q) ws 0 → n ≡ 0
    → a ≡ says 0 (query_values q (window_of ws)) → a ≡ (perform (queries q) ws []).answer
unfolding perform
query_answered q ws n a e z h = h ∙ (leaves_asked q ws 0 (sym z ∙ e)).0

-- what the promise of a changing call without a report says
abbrev pub Performed : Call → List ℕ → Answer → List ℕ → Type 0
Performed call ws a ws' = (a ≡ (perform call ws []).answer) × (ws' ≡ (perform call ws []).words)

pub refused_so : (call : Call) (ws : List ℕ) (n : ℕ) → n ≡ refusal call ws 0 → (n ≡ 0 → ⊥) → Performed call ws (refused n) ws
unfolding perform
refused_so call ws n e h = let z = leaves_refused call ws 0 n e h in (z.0, z.1)

pub changed_so : (x : Change) (ws ws' : List ℕ) (n : ℕ) (a : Answer) → n ≡ window_refusal (checks x) ws 0 → n ≡ 0
    → a ≡ says (length (changed x (window_of ws)).gone) (changed x (window_of ws)).values → Holds (changed x (window_of ws)).window ws' → Performed (changes x) ws a ws'
unfolding perform
changed_so x ws ws' n a e z h k = let l = leaves_changed x ws 0 (sym z ∙ e) in (h ∙ l.0, k.words ∙ l.1)

pub opened_so : (c : ℕ) (b : Settings) (keys ws ws' : List ℕ) (n : ℕ) → n ≡ opening_refusal c b keys ws → n ≡ 0
    → Holds (opened c b keys) ws' → Performed (opens c b keys) ws (says 0 []) ws'
unfolding perform
opened_so c b keys ws ws' n e z k = let l = leaves_opened c b keys ws 0 (sym z ∙ e) in (l.0, k.words ∙ l.1)

-- ---- what an accepted call may rely on

pub record Admitted (k : Checks) (ws : List ℕ) (room : ℕ) : Type 0 where
  pub whole : Whole ws
  pub sound : Sound (window_of ws).clock (window_of ws)
  -- at the call's own moment
  pub sound_at : Sound (moment_of k.moment (window_of ws).clock) (window_of ws)
  pub passes : Accepted k (window_of ws) room

pub admitted : (k : Checks) (ws : List ℕ) (room n : ℕ) → n ≡ window_refusal k ws room → n ≡ 0 → Admitted k ws room
unfolding window_refusal
admitted k ws room n e z =
    let a = passed 0 (is_long ws) _ (sym e ∙ z) in
    let b = passed 1 (is_window ws) _ a.1 in
    let h = window_whole ws (eqb-true (length ws) 4096 a.0) b.0 in
    let p = accepted_is k (window_of ws) room b.1 in
    let m = moment_later k.moment (window_of ws).clock h.1.clock p.moment in
    record { whole = h.0; sound = h.1; sound_at = later m.0 m.1 h.1; passes = p }

-- ---- the last clock is set last

pub clock_set : (c : ℕ) (w : Window) (ws ws' : List ℕ) → Holds w ws → Holds (with_clock c (window_of ws)) ws' → Holds (with_clock c w) ws'
clock_set c w ws ws' h k = subst (λ (v : Window). Holds (with_clock c v) ws') h.is k

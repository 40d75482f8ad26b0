-- A call on any words is answered by its refusal, and a refused one changes nothing. Assumes nothing.
use Rattle.std.specs.Prelude.{◌≡◌, refl, List, [], ◌++◌, ℕ, zero, suc, length, drop}
use Rattle.std.proofs.Common.{arith}
use Rattle.model.specs.Refusals.{Call, refusal}
use Rattle.model.specs.Perform.{refused, words_by, gone_by, answer_by, plan_by, words_after, gone_after, answer_after, plan_after, perform}
use Rattle.model.specs.declared.Release.{Release}
use Rattle.history.specs.Reports.{Answered}

answered_by : (r : ℕ) (call : Call) (ws : List ℕ) → Answered r (answer_by r call ws)
answered_by zero call ws = tt
answered_by (suc r) call ws = refl

pub answered : (call : Call) (ws : List ℕ) (lent : List Release) → Answered (refusal call ws (length lent)) (perform call ws lent).answer
unfolding perform answer_after
answered call ws lent = answered_by (refusal call ws (length lent)) call ws

refused_by : (r : ℕ) (call : Call) (ws : List ℕ) (lent : List Release) (n : ℕ) → answer_by r call ws ≡ refused n
    → (words_by r call ws ≡ ws) × (gone_by r call ws ++ drop (length (gone_by r call ws)) lent ≡ lent) × (plan_by r call ws ≡ [])
refused_by zero call ws lent n q = absurd (let z : ◌≡◌ {A = ℕ} 0 1 = cc in omega arith)
refused_by (suc m) call ws lent n q = (refl, refl, refl)

-- a refused call changes neither words nor report, and plans nothing
pub refused_changes_nothing : (call : Call) (ws : List ℕ) (lent : List Release) (n : ℕ) → (perform call ws lent).answer ≡ refused n
    → ((perform call ws lent).words ≡ ws) × ((perform call ws lent).report ≡ lent) × ((perform call ws lent).plan ≡ [])
unfolding perform answer_after words_after gone_after plan_after
refused_changes_nothing call ws lent n q = refused_by (refusal call ws (length lent)) call ws lent n q

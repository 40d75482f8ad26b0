-- What the calls promise, said of the call that a record stands for. Assumes nothing.
use Rattle.std.specs.Prelude.{◌≡◌, refl, false, List, [], ℕ, replicate, Option, None, Some, Result, Ok, Err}
use Rattle.std.proofs.Common.{sym, ap, subst, ◌∙◌}
use Rattle.model.specs.Lists.{pad}
use Rattle.model.specs.Queries.{Query}
use Rattle.model.specs.Refusals.{Change, Call, changes, queries, checks, clears_preferred}
use Rattle.model.specs.Perform.{Answer, perform}
use Rattle.model.specs.declared.Plan.{Plan}
use Rattle.model.specs.declared.Refusal.{Refusal}
use Rattle.plans.specs.Answers.{planned_part, plan_answer_says}
use Rattle.plans.specs.declared.PlanAnswer.{PlanAnswer}
use Rattle.flat.specs.Flat.{plan_flat}
use Rattle.flat.specs.Plans.{plan_numbers, answer_flat}
use Rattle.flat.specs.declared.FlatPlan.{FlatPlan}
use Rattle.letting_go.specs.Letting.{places}
use Rattle.lend.specs.Cases.{Missed, pick, picks_other}
use Rattle.lend.specs.Goes.{Goes, Leaves, Quiet, quiet_change, quiet_opening, quiet_goes}
use Rattle.recorded.specs.Said.{plan_row, alone}
use Rattle.recorded.specs.declared.Said.{Said}
use Rattle.replayed.specs.declared.kinds.Kind.{Kind}
use Rattle.replayed.specs.declared.kinds.Doing.{Doing}
use Rattle.replayed.specs.declared.kinds.Doing.TheVariants.{Open, CreditDuplicateDelivery, MarkPeerUnresponsive, ConfirmPrefixProbe, ConfirmColdFrontHedge, SetFanoutEligiblePeers, ClearPreferredPeer}
use Rattle.replayed.specs.declared.kinds.PlanPart.TheVariants.{Numbers, Hashes}
use Rattle.replayed.specs.Calls.{Recorded, Question, Performs, plan_part, doing, told}

-- ---- of one call what is promised of another that it is

pub asked_as : (ws : List ℕ) (p q : Query) → p ≡ q → (a : Answer) → a ≡ (perform (queries q) ws []).answer → a ≡ (perform (queries p) ws []).answer
asked_as ws p q e a h = subst (λ (x : Query). a ≡ (perform (queries x) ws []).answer) (sym e) h

-- of the query that a kind or a number asks what is promised of the one that stands beside it
module _ {K : Type 0} (by : K → Query) (ws : List ℕ) where
  pub asked_at : {k j : K} → k ≡ j → {a : Answer} → a ≡ (perform (queries (by j)) ws []).answer → a ≡ (perform (queries (by k)) ws []).answer
  asked_at e h = asked_as ws _ _ (ap by e) _ h

-- and of the one that stands for every other number
pub asked_other : (l : List (ℕ × Query)) (other : Query) (ws : List ℕ) (k : ℕ) → Missed l k (Unit {0}) → {a : Answer} → a ≡ (perform (queries other) ws []).answer
    → a ≡ (perform (queries (pick l other k)) ws []).answer
asked_other l other ws k m h = asked_as ws _ _ (picks_other l other k _ m) _ h

pub performs_as : (ws : List ℕ) (p q : Recorded) → p ≡ q → (ws' : List ℕ) (r : Said) → Performs q ws ws' r → Performs p ws ws' r
performs_as ws p q e ws' r h = subst (λ (x : Recorded). Performs x ws ws' r) (sym e) h

pub row_as : (ws : List ℕ) (p q : Question) → p ≡ q → (fields : List ℕ)
    → fields ≡ q.row_of (perform (queries q.query) ws []).answer → fields ≡ p.row_of (perform (queries p.query) ws []).answer
row_as ws p q e fields h = subst (λ (x : Question). fields ≡ x.row_of (perform (queries x.query) ws []).answer) (sym e) h

pub said_as : (p : Recorded) (ws ws' : List ℕ) (r s : Said) → r ≡ s → Performs p ws ws' s → Performs p ws ws' r
said_as p ws ws' r s e h = subst (λ (x : Said). Performs p ws ws' x) (sym e) h

-- an answer made a row, beside what went
pub goes_performs : (call : Call) (row_of : Answer → List ℕ) (ws ws' : List ℕ) (a : Answer) (n : ℕ) (gone fields : List ℕ)
    → fields ≡ row_of a → Goes call ws ws' a n gone
    → Performs (record { call = call; row_of = row_of }) ws ws' (record { fields = fields; places = n; gone = gone })
goes_performs call row_of ws ws' a n gone fields f g = (f ∙ ap row_of g.0, g.3 ∙ ap places g.0, g.2, g.1)

-- a call that lets nothing go, of its kind: its answer made a row, beside a report of which nothing is filled
pub performs_quietly : (by : Kind → Recorded) {k j : Kind} → k ≡ j → Quiet (by j).call → (ws ws' : List ℕ) (a : Answer) (fields : List ℕ) (r : Said)
    → r ≡ alone fields → fields ≡ (by j).row_of a → Leaves (by j).call ws a ws' → Performs (by k) ws ws' r
unfolding alone
performs_quietly by {j = j} e q ws ws' a fields r s f l =
    let t = by j in
    let p = goes_performs t.call t.row_of ws ws' a 0 (replicate 2304 0) fields f (quiet_goes t.call q ws a ws' l) in
    performs_as ws _ t (ap by e) ws' r (said_as t ws ws' r (alone fields) s p)

-- a change that lets nothing go and is what a kind stands for
pub tells : (ns : List ℕ) (place : ℕ) {k j : Kind} → k ≡ j → (c : Change) (row_of : Answer → List ℕ) → told ns place j ≡ record { call = changes c; row_of = row_of }
    → (checks c).lets_go ≡ false → (ws ws' : List ℕ) (a : Answer) (fields : List ℕ) → fields ≡ row_of a → Leaves (changes c) ws a ws'
    → Performs (told ns place k) ws ws' (alone fields)
tells ns place {j = j} e c row_of p q ws ws' a fields f l =
    performs_as ws _ _ (ap (told ns place) e ∙ p) ws' (alone fields)
    (performs_quietly (λ _. record { call = changes c; row_of = row_of }) {k = j} {j = j} refl (quiet_change c q) ws ws' a fields (alone fields) refl f l)

-- ---- a plan's numbers, and its hashes

module _ (r : PlanAnswer) (padded : r.hashes ≡ pad 32 0 (planned_part r)) (a : Answer) (told : plan_answer_says r ≡ a) where
  is_flat : plan_numbers r.plan r.hashes ≡ plan_flat a
  is_flat = answer_flat r padded ∙ ap plan_flat told

  hashes_of : (p : Result (Option Plan) Refusal) (hs : List ℕ) → hs ≡ (plan_numbers p hs).hashes
  hashes_of (Err r) hs = refl
  hashes_of (Ok None) hs = refl
  hashes_of (Ok (Some p)) hs = refl

  pub plan_told : (fields : List ℕ) → fields ≡ plan_row (plan_numbers r.plan r.hashes) → fields ≡ plan_part Numbers a
  plan_told fields f = f ∙ ap plan_row is_flat

  pub hashes_told : r.hashes ≡ plan_part Hashes a
  hashes_told = hashes_of r.plan r.hashes ∙ ap (λ (f : FlatPlan). f.hashes) is_flat

-- ---- the calls that are done or refused let nothing go

pub quiet_doing : (ns : List ℕ) (place : ℕ) (k : Doing) → Quiet (doing ns place k)
quiet_doing ns place Open = quiet_opening _ _ _
quiet_doing ns place CreditDuplicateDelivery = quiet_change _ refl
quiet_doing ns place MarkPeerUnresponsive = quiet_change _ refl
quiet_doing ns place ConfirmPrefixProbe = quiet_change _ refl
quiet_doing ns place ConfirmColdFrontHedge = quiet_change _ refl
quiet_doing ns place SetFanoutEligiblePeers = quiet_change _ refl
quiet_doing ns place ClearPreferredPeer = quiet_change clears_preferred refl

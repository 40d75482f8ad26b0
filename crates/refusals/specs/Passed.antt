-- A refusal that `?` hands on, and what a call so refused answers and leaves; one that is not refused. Assumes nothing.
use Rattle.std.specs.Prelude.{◌≡◌, refl, ℕ, List, [], Result, Ok, Err, IsErrAnd}
use Rattle.std.proofs.Common.{sym, ap, ◌∙◌, arith}
use Rattle.model.specs.Layout.{window_of}
use Rattle.model.specs.Queries.{Query, query_values}
use Rattle.model.specs.Refusals.{Call, queries, query_checks, window_refusal, refusal}
use Rattle.model.specs.Perform.{Answer, refused, says, perform}
use Rattle.model.specs.Says.{number, refusal_number, says_by}
use Rattle.model.specs.declared.Refusal.{Refusal}
use Rattle.model.specs.declared.Refusal.TheVariants.{WordCount, NotAWindow, ShortReport, Clock, Settings, Seats, Listed, Many, Body, ShortOutput, Payload, Chain}
use Rattle.refusals.specs.Outcomes.{query_refused, query_answered, Performed, refused_so}

-- no refusal has the number 0, which says that nothing refuses
pub number_some : (r : Refusal) → number r ≡ 0 → ⊥
number_some WordCount e = omega arith
number_some NotAWindow e = omega arith
number_some ShortReport e = omega arith
number_some Clock e = omega arith
number_some Settings e = omega arith
number_some Seats e = omega arith
number_some Listed e = omega arith
number_some Many e = omega arith
number_some Body e = omega arith
number_some ShortOutput e = omega arith
number_some Payload e = omega arith
number_some Chain e = omega arith

module _ {A : Type 0} (r : Result A Refusal) (e : Refusal) (told : IsErrAnd r (λ f. f ≡ e)) where
  -- what `?` returns is the refusal that it met
  pub passed_on : r ≡ Err e
  passed_on = by r told
    where
      by : (x : Result A Refusal) → IsErrAnd x (λ f. f ≡ e) → x ≡ Err e
      by (Ok a) h = absurd h
      by (Err f) h = ap Err h

  pub says_refused : (f : A → Answer) → says_by f r ≡ refused (number e)
  says_refused f = ap (says_by f) passed_on

  pub query_passed : (f : A → Answer) (q : Query) (ws : List ℕ) → number e ≡ window_refusal (query_checks q) ws 0 → says_by f r ≡ (perform (queries q) ws []).answer
  query_passed f q ws h = says_refused f ∙ query_refused q ws (number e) h (number_some e)

  -- a changing call without a report
  pub call_passed : (f : A → Answer) (call : Call) (ws : List ℕ) → number e ≡ refusal call ws 0 → Performed call ws (says_by f r) ws
  call_passed f call ws h = let p = refused_so call ws (number e) h (number_some e) in (says_refused f ∙ p.0, p.1)

-- a query that is not refused
pub query_told : (q : Query) (ws : List ℕ) (a : Answer) → 0 ≡ window_refusal (query_checks q) ws 0 → a ≡ says 0 (query_values q (window_of ws)) → a ≡ (perform (queries q) ws []).answer
query_told q ws a e h = query_answered q ws 0 a e refl h

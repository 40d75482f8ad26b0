-- A slice taken as an array, or refused for its number: what `as_array` or `as_mut_array`, and then `ok_or`, answered. Assumes nothing.
use Rattle.std.specs.Prelude.{◌≡◌, ◌≢◌, refl, ℕ, List, [], length, Option, None, Some, Result, Ok, Err, MatchOption}
use Rattle.std.proofs.Common.{MutBor, sym, ap, subst, ◌∙◌}
use Rattle.std.specs.Array.{IsWholeChunk}
use Rattle.std.specs.Option.{ok_or}
use Rattle.model.specs.Layout.{window_of}
use Rattle.model.specs.Queries.{Query, query_values}
use Rattle.model.specs.Refusals.{Checks, Call, queries, query_checks, window_refusal}
use Rattle.model.specs.Perform.{Answer, says, perform}
use Rattle.model.specs.Says.{number}
use Rattle.model.specs.declared.Refusal.{Refusal}
use Rattle.model.specs.declared.Refusal.TheVariants.{WordCount}
use Rattle.refusals.specs.Tests.{refused_1}
use Rattle.refusals.specs.Outcomes.{Admitted, admitted, Performed}
use Rattle.refusals.specs.Passed.{query_told}

module _ {X : Type 0} (now : X → List ℕ) (ws : List ℕ) (n : ℕ) (e : Refusal) where
  -- what the answer of `ok_or` says
  abbrev Told : Result X Refusal → Type 0
  Told (Ok x) = (now x ≡ ws) × (length ws ≡ n)
  Told (Err f) = (f ≡ e) × (length ws ≢ n)

  module _ (o : Option X) (cases : MatchOption o (length ws ≢ n) (λ y. IsWholeChunk ws (now y) n)) where
    told : Told (ok_or o e)
    told = by o cases
      where
        by : (x : Option X) → MatchOption x (length ws ≢ n) (λ y. IsWholeChunk ws (now y) n) → Told (ok_or x e)
        by None m = (refl, m)
        by (Some y) m = (m.same, m.long)

    pub array_of : (x : X) → ok_or o e ≡ Ok x → (now x ≡ ws) × (length ws ≡ n)
    array_of x q = subst Told q told

    pub no_array : (f : Refusal) → ok_or o e ≡ Err f → (f ≡ e) × (length ws ≢ n)
    no_array f q = subst Told q told

-- the lent words, as a call takes them
module _ (ws : List ℕ) (o : Option (MutBor (List ℕ))) {r : Result (MutBor (List ℕ)) Refusal} (cases : MatchOption o (length ws ≢ 4096) (λ y. IsWholeChunk ws y.now 4096)) (value : r ≡ ok_or o WordCount) where
  pub taken : {x : MutBor (List ℕ)} → r ≡ Ok x → x.now ≡ ws
  taken q = (array_of (λ b. b.now) ws 4096 WordCount o cases _ (sym value ∙ q)).0

  pub not_taken : {f : Refusal} → r ≡ Err f → (f ≡ WordCount) × (length ws ≢ 4096)
  not_taken q = no_array (λ b. b.now) ws 4096 WordCount o cases _ (sym value ∙ q)

-- a refusal for the number of the words
pub miscounted : (k : Checks) (ws : List ℕ) (room : ℕ) (f : Refusal) → (f ≡ WordCount) × (length ws ≢ 4096) → number f ≡ window_refusal k ws room
miscounted k ws room f t = ap number t.0 ∙ refused_1 k ws room t.1

-- ---- the array is the slice: what holds of one holds of the other

module _ (ws array : List ℕ) (same : array ≡ ws) where
  pub admitted_in : (k : Checks) (room : ℕ) → 0 ≡ window_refusal k ws room → Admitted k array room
  admitted_in k room e = admitted k array room 0 (subst (λ (x : List ℕ). 0 ≡ window_refusal k x room) (sym same) e) refl

  pub query_told_in : (q : Query) (a : Answer) → 0 ≡ window_refusal (query_checks q) ws 0 → a ≡ says 0 (query_values q (window_of array)) → a ≡ (perform (queries q) ws []).answer
  query_told_in q a e h = query_told q ws a e (h ∙ ap (λ (x : List ℕ). says 0 (query_values q (window_of x))) same)

  pub performed_in : (call : Call) (a : Answer) (ws' : List ℕ) → Performed call array a ws' → Performed call ws a ws'
  performed_in call a ws' h = subst (λ (x : List ℕ). Performed call x a ws') same h

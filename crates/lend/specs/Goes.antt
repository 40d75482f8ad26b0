-- What a call promises that is lent a report of 256 places, none of them filled. One that lets nothing go says and leaves the same with any report, and the report stays as
-- it was. Assumes nothing.
use Rattle.std.specs.Prelude.{◌≡◌, refl, Bool, true, false, ℕ, zero, suc, ◌+◌, ◌*◌, get_or, replicate}
use Rattle.std.proofs.Math.Path.{sym, ap}
use Rattle.std.proofs.Common.{subst, ◌∙◌, true≢false}
use mathlib.Core.List.{List, [], ◌∷◌, ◌++◌}
use Rattle.std.proofs.Math.ListN.{length, drop}
use Rattle.model.specs.Window.{Window}
use Rattle.model.specs.Layout.{window_of}
use Rattle.model.specs.Queries.{Query, reads, asks_owner, asks_queue_start, asks_compute_capacity, asks_probe_offered, asks_expired_capacity, asks_request_capacity, asks_contains, asks_count_for, asks_downloading, asks_hedge_offered, asks_has_expired, asks_cooldown}
use Rattle.model.specs.Refusals.{Change, Call, opens, changes, queries, checks, query_checks, report_ok, refusal_at, window_refusal, refusal, requests, fetches, receives, credits, credits_duplicate, rejects, expires, requeues, releases, retires, retains, marks_unresponsive, confirms_probe, confirms_hedge, observes, sets_fanout, clears_preferred, plans, plans_retry}
use Rattle.model.specs.Perform.{Answer, change, changed, requested, observed, does, words_by, gone_by, answer_by, words_after, gone_after, answer_after, perform}
use Rattle.model.specs.declared.Release.{Release}
use Rattle.model.specs.declared.Settings.{Settings}
use Rattle.letting_go.specs.Letting.{places}
use Rattle.report_words.specs.Report.{release_at, releases_of}
use Rattle.lend.specs.Blank.{blank, none_filled}

-- the answer, the words that are left, what the report then says in words, and how many places of it the answer counts
abbrev pub Goes : Call → List ℕ → List ℕ → Answer → ℕ → List ℕ → Type 0
Goes call ws ws' a n gone =
    (a ≡ (perform call ws none_filled).answer)
    × (ws' ≡ (perform call ws none_filled).words)
    × (releases_of 256 gone ≡ (perform call ws none_filled).report)
    × (n ≡ places a)

-- of one call what is promised of another that it is
pub goes_as : (ws : List ℕ) (p q : Call) → p ≡ q → (ws' : List ℕ) (a : Answer) (n : ℕ) (gone : List ℕ) → Goes q ws ws' a n gone → Goes p ws ws' a n gone
goes_as ws p q e ws' a n gone h = subst (λ (x : Call). Goes x ws ws' a n gone) (sym e) h

-- and of the call that a number picks what is promised of the one that stands beside the number
pub goes_at : (by : ℕ → Call) {k j : ℕ} → k ≡ j → {q : Call} → by j ≡ q → (ws ws' : List ℕ) (a : Answer) (n : ℕ) (gone : List ℕ) → Goes q ws ws' a n gone
    → Goes (by k) ws ws' a n gone
goes_at by e f ws ws' a n gone h = goes_as ws _ _ (ap by e ∙ f) ws' a n gone h

-- the same of a call that was lent no report
abbrev pub Leaves : Call → List ℕ → Answer → List ℕ → Type 0
Leaves call ws a ws' = (a ≡ (perform call ws []).answer) × (ws' ≡ (perform call ws []).words)

pub leaves_as : (ws : List ℕ) (p q : Call) → p ≡ q → (a : Answer) (ws' : List ℕ) → Leaves q ws a ws' → Leaves p ws a ws'
leaves_as ws p q e a ws' h = subst (λ (x : Call). Leaves x ws a ws') (sym e) h

pub leaves_at : (by : ℕ → Call) {k j : ℕ} → k ≡ j → {q : Call} → by j ≡ q → (ws : List ℕ) (a : Answer) (ws' : List ℕ) → Leaves q ws a ws' → Leaves (by k) ws a ws'
leaves_at by e f ws a ws' h = leaves_as ws _ _ (ap by e ∙ f) a ws' h

-- ---- a call that lets nothing go: a report has no part in its refusal, and nothing goes

pub record Quiet (call : Call) : Type 0 where
  pub same : (ws : List ℕ) (room : ℕ) → refusal call ws room ≡ refusal call ws 0
  pub keeps : (w : Window) → (does call w).gone ≡ []

-- ---- which calls are quiet

same_change : (x : Change) → (checks x).lets_go ≡ false → (ws : List ℕ) (room : ℕ) → window_refusal (checks x) ws room ≡ window_refusal (checks x) ws 0
unfolding window_refusal refusal_at report_ok
same_change x q ws room = rw q

nothing_goes : (x : Change) → (checks x).lets_go ≡ false → (now : ℕ) (w : Window) → (change x now w).gone ≡ []
unfolding requested observed
nothing_goes (requests c owner hashes heights next bytes n) q now w = refl
nothing_goes (fetches c owner h height is_staged bytes n) q now w = refl
nothing_goes (receives c h bytes source) q now w = absurd (true≢false q)
nothing_goes (credits c h source height) q now w = absurd (true≢false q)
nothing_goes (credits_duplicate h source) q now w = refl
nothing_goes (rejects c h source) q now w = absurd (true≢false q)
nothing_goes (expires c) q now w = absurd (true≢false q)
nothing_goes (requeues c h named) q now w = absurd (true≢false q)
nothing_goes (releases c h) q now w = absurd (true≢false q)
nothing_goes (retires c height) q now w = absurd (true≢false q)
nothing_goes (retains flags) q now w = absurd (true≢false q)
nothing_goes (marks_unresponsive c source) q now w = refl
nothing_goes (confirms_probe c owner given alternates) q now w = refl
nothing_goes (confirms_hedge owner alternate h) q now w = refl
nothing_goes (observes c l) q now w = refl
nothing_goes (sets_fanout c n) q now w = refl
nothing_goes clears_preferred q now w = refl
nothing_goes (plans c source l hash_words heights) q now w = absurd (true≢false q)
nothing_goes (plans_retry c source l hash_words heights) q now w = absurd (true≢false q)

pub quiet_change : (x : Change) → (checks x).lets_go ≡ false → Quiet (changes x)
unfolding changed
quiet_change x q = record { same = same_change x q; keeps = λ w. nothing_goes x q _ w }

asks_no_report : (q : Query) → (query_checks q).lets_go ≡ false
asks_no_report (reads r) = refl
asks_no_report (asks_request_capacity bytes n) = refl
asks_no_report (asks_compute_capacity s bytes n) = refl
asks_no_report (asks_expired_capacity c) = refl
asks_no_report (asks_has_expired s c) = refl
asks_no_report (asks_cooldown s c) = refl
asks_no_report (asks_probe_offered s h) = refl
asks_no_report (asks_hedge_offered s h) = refl
asks_no_report (asks_contains h) = refl
asks_no_report (asks_owner h) = refl
asks_no_report (asks_downloading s) = refl
asks_no_report (asks_count_for s) = refl
asks_no_report (asks_queue_start s) = refl

same_query : (q : Query) (ws : List ℕ) (room : ℕ) → window_refusal (query_checks q) ws room ≡ window_refusal (query_checks q) ws 0
unfolding window_refusal refusal_at report_ok
same_query q ws room = rw (asks_no_report q)

pub quiet_query : (q : Query) → Quiet (queries q)
quiet_query q = record { same = same_query q; keeps = λ w. refl }

pub quiet_opening : (c : ℕ) (b : Settings) (keys : List ℕ) → Quiet (opens c b keys)
quiet_opening c b keys = record { same = λ ws room. refl; keeps = λ w. refl }

-- a query leaves the words
pub asked_leaves : (q : Query) (ws : List ℕ) → ws ≡ (perform (queries q) ws []).words
unfolding perform words_after
asked_leaves q ws = by (refusal (queries q) ws 0)
  where
    by : (n : ℕ) → ws ≡ words_by n (queries q) ws
    by zero = refl
    by (suc n) = refl

-- ---- a report of zeros

zeros : (n k : ℕ) → ◌≡◌ {A = ℕ} (get_or (replicate n 0) k 0) 0
zeros zero k = refl
zeros (suc n) zero = refl
zeros (suc n) (suc k) = zeros n k

one_behind : (n : ℕ) (r : Release) → replicate n r ++ (r ∷ []) ≡ replicate (suc n) r
one_behind zero r = refl
one_behind (suc n) r = ap (λ (l : List Release). r ∷ l) (one_behind n r)

nothing_at : (k : ℕ) → release_at (replicate 2304 0) k ≡ blank
nothing_at k =
    let z = zeros 2304 in
    λ i. record {
      entry = record {
        hash = record { a = z (9 * k) i; b = z (9 * k + 1) i; c = z (9 * k + 2) i; d = z (9 * k + 3) i };
        owner = z (9 * k + 4) i;
        time = z (9 * k + 5) i;
        height = z (9 * k + 6) i;
        estimate = z (9 * k + 7) i;
      };
      reason = z (9 * k + 8) i;
    }

all_blank : (n : ℕ) → releases_of n (replicate 2304 0) ≡ replicate n blank
unfolding releases_of
all_blank zero = refl
all_blank (suc n) = (λ i. all_blank n i ++ (nothing_at n i ∷ [])) ∙ one_behind n blank

blank_report : releases_of 256 (replicate 2304 0) ≡ none_filled
unfolding none_filled
blank_report = all_blank 256

-- ---- so it goes with a report as without one, and the report stays empty

module _ (call : Call) (q : Quiet call) (ws : List ℕ) where
  none_gone : (n : ℕ) → gone_by n call ws ≡ []
  none_gone zero = q.keeps (window_of ws)
  none_gone (suc n) = refl

  no_places : (n : ℕ) → 0 ≡ places (answer_by n call ws)
  no_places zero = sym (ap (λ (l : List Release). length l) (q.keeps (window_of ws)))
  no_places (suc n) = refl

  pub quiet_goes : (a : Answer) (ws' : List ℕ) → Leaves call ws a ws' → Goes call ws ws' a 0 (replicate 2304 0)
  unfolding perform answer_after words_after gone_after
  quiet_goes a ws' l =
      let room = length none_filled in
      let s : refusal call ws 0 ≡ refusal call ws room = sym (q.same ws room) in
      let e = l.0 ∙ ap (λ (n : ℕ). answer_by n call ws) s in (
        e,
        l.1 ∙ ap (λ (n : ℕ). words_by n call ws) s,
        blank_report ∙ sym (ap (λ (r : List Release). r ++ drop (length r) none_filled) (none_gone (refusal call ws room))),
        no_places (refusal call ws room) ∙ sym (ap places e),
      )

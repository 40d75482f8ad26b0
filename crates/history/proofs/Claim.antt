-- DEMAND 3, over every list of calls: `the_book_adds_up`, the proof of `Claim` from the invariant. Assumes nothing.
use Rattle.std.specs.Prelude.{◌≡◌, refl, Bool, cond, ℕ, eqb, length, take}
use Rattle.std.proofs.Common.{sym, ap, ◌∙◌, subst, inl, inr, arith}
use mathlib.Core.List.{List, [], ◌∷◌, Memᴰ}
use Rattle.model.specs.Lists.{count}
use Rattle.model.specs.Hash.{key, same}
use Rattle.model.specs.Window.{Window}
use Rattle.model.specs.Records.{owned_by, pending_count_for}
use Rattle.model.specs.Layout.{window_of, is_window}
use Rattle.model.specs.Refusals.{opens, refusal}
use Rattle.model.specs.Perform.{refused, says, Outcome, perform}
use Rattle.model.specs.declared.Hash.{Hash}
use Rattle.model.specs.declared.Entry.{Entry}
use Rattle.model.specs.declared.Release.{Release}
use Rattle.model.specs.declared.Settings.{Settings}
use Rattle.laws.specs.Numbers.{both}
use Rattle.laws.specs.Bag.{weigh, one}
use Rattle.laws.specs.Entries.{on, estimate_of, sum_weigh, owned, oldest_none, rising_one}
use Rattle.laws.specs.Words.{sound_words}
use Rattle.history.specs.Run.{Act, Done, Run, run_step, run, on_words, AllFit}
use Rattle.history.specs.Book.{Mark, opened_lines, pending_lines, gone_lines, marks, Book, book, new_book}
use Rattle.history.specs.Reports.{names, AsLent, left_by, Made, Answered}
use Rattle.history.specs.Order.{delivers, InOrder}
use Rattle.history.specs.Claim.{Claim}
use Rattle.history.proofs.Lines.{lines_split}
use Rattle.history.proofs.Steps.{Sync, AllAsLent, runs, starts, log_of}
use Rattle.history.proofs.Ordered.{report_in_order}
use Rattle.history.proofs.Answers.{answered, refused_changes_nothing}
use Rattle.history.proofs.Perms.{same_perm, entry_discrete}
use Rattle.history.proofs.Places.{names_place, log_once, log_true, same_mem}

-- ---- counts are weights

count_weigh : {A : Type 0} (p : A → Bool) (l : List A) → count p l ≡ weigh (λ x. cond (p x) 1 0) l
unfolding count weigh
count_weigh p [] = refl
count_weigh p (x ∷ l) = elim (both (p x)) [ inl q ↦ rw q (omega (arith, count_weigh p l)) | inr q ↦ rw q (omega (arith, count_weigh p l)) ]

owned_count : (s : ℕ) (l : List Entry) → pending_count_for s l ≡ weigh (owned s) l
unfolding pending_count_for owned
owned_count s l = count_weigh (owned_by s) l

hash_count : (x : Hash) (l : List Entry) → count (λ e. same e.hash x) l ≡ weigh (on (key x) one) l
unfolding on same
hash_count x l = count_weigh (λ e. eqb (key e.hash) (key x)) l

names_count : (i k : ℕ) (l : List Mark) → count (names i k) l ≡ weigh (names_place i k) l
unfolding count weigh names names_place
names_count i k [] = refl
names_count i k (m ∷ l) = elim (both (eqb m.call i)) [
  | inl p ↦ elim (both (eqb m.place k)) [ inl q ↦ simp (p, q) (omega (arith, names_count i k l)) | inr q ↦ simp (p, q) (omega (arith, names_count i k l)) ]
  | inr p ↦ simp p (omega (arith, names_count i k l))
]

lent_each : (h : List Done) → AllAsLent h → (d : Done) → Memᴰ d h → AsLent d
lent_each [] a d m = elim m [ ]
lent_each (x ∷ h) a d (Memᴰ.head q) = subst AsLent (sym q) a.0
lent_each (x ∷ h) a d (Memᴰ.tail m) = lent_each h a.1 d m

-- ---- each call of a run comes to what `perform` says of the words that it found

record Performed (first : List ℕ) (s : Run) : Type 0 where
  left : s.words ≡ left_by first s.done
  calls : (d : Done) (ws : List ℕ) → Made first s.done d ws → d.outcome ≡ perform d.act.call ws d.act.lent

module _ (first : List ℕ) where
  next_call : (a : Act) (s : Run) → Performed first s → (d : Done) (ws : List ℕ)
      → Made first (record { act = a; outcome = perform a.call s.words a.lent } ∷ s.done) d ws → d.outcome ≡ perform d.act.call ws d.act.lent
  next_call a s k d ws (inl m) =
      ap (λ (x : Done). x.outcome) m.0
      ∙ ap (λ (v : List ℕ). perform a.call v a.lent) (k.left ∙ sym m.1)
      ∙ ap (λ (x : Act). perform x.call ws x.lent) (sym (ap (λ (x : Done). x.act) m.0))
  next_call a s k d ws (inr m) = k.calls d ws m

  performed_step : (a : Act) (s : Run) → Performed first s → Performed first (run_step a s)
  unfolding run_step
  performed_step a s k = record { left = refl; calls = next_call a s k }

  performed : (acts : List Act) (s : Run) → Performed first s → Performed first (run acts s)
  unfolding run
  performed [] s k = k
  performed (a ∷ acts) s k = performed acts (run_step a s) (performed_step a s k)

  -- before the first call
  none_performed : Performed first (on_words first)
  none_performed = record { left = refl; calls = λ d ws m. absurd m }

-- ---- the claim, from the invariant

claim_of : (first : List ℕ) (b : Book) (s : Run) → Sync b s → Performed first s → Claim first s.words (window_of s.words) b s.done
claim_of first b s y made =
    let w = b.own in
    let ls = b.lines in
    let h = s.done in
    let g = y.inv.sound in
    let a = y.inv.agree in
    let z = sound_words w g in
    let e : window_of s.words ≡ w = ap window_of y.words ∙ z.back in
    subst (λ (v : Window). Claim first s.words v b h) (sym e) (record {
      long = ap length y.words ∙ z.long;
      counts = ap is_window y.words ∙ z.counts;
      own = y.words;
      own_window = refl;
      adds_up = omega (arith, g.queue.total, sum_weigh w.queue.pending, sum_weigh (gone_lines ls), sum_weigh (opened_lines ls), lines_split estimate_of ls, a.same estimate_of);
      total = g.queue.total;
      records = same_perm entry_discrete w.queue.pending (pending_lines ls) a.same;
      one_line = λ x. omega (arith, hash_count x (pending_lines ls), a.same (on (key x) one), rising_one 0 w.queue.pending (key x) g.queue.rising);
      marks_true = λ m k. log_true h m (same_mem (marks ls) (log_of h) a.names k);
      places_once = λ i k c. names_count i k (marks ls) ∙ a.names (names_place i k) ∙ log_once h i k c;
      as_lent = lent_each h y.as_lent;
      left = made.left;
      refusals = λ d old m.
          subst (λ (o : Outcome). Answered (refusal d.act.call old (length d.act.lent)) o.answer) (sym (made.calls d old m)) (answered d.act.call old d.act.lent);
      refused_leaves = λ d old m.
          subst (λ (o : Outcome). (k : ℕ) → o.answer ≡ refused k → (o.words ≡ old) × (o.report ≡ d.act.lent) × (o.plan ≡ [])) (sym (made.calls d old m)) (refused_changes_nothing d.act.call old d.act.lent);
      in_order = λ d old m.
          subst (λ (o : Outcome). (n : ℕ) (values : List ℕ) → o.answer ≡ says n values → InOrder (delivers d.act.call (window_of old).queue.pending) (take n o.report))
          (sym (made.calls d old m)) (report_in_order d.act.call old d.act.lent);
      seats = λ p. omega (arith, owned_count p w.queue.pending, owned_count p (gone_lines ls), owned_count p (opened_lines ls), lines_split (owned p) ls, a.same (owned p));
      start_there = λ p k.
          let o = oldest_none p w.queue.pending in
          let u = g.queue.starts p k in
          let n = owned_count p w.queue.pending in
          ((λ x. n ∙ o.0 (omega (arith, u.above))), (λ x. u.none (o.1 (sym n ∙ x))));
      start_above = λ p k. (g.queue.starts p k).above;
      start_below = λ p k. (g.queue.starts p k).below;
    })

-- THE THEOREM. The calls are an accepted opening (c, b, keys), on words of any content, and any list of calls after it: openings, changes and
-- queries, accepted or refused, each with the report lent to it. Heights in their arguments have 32 bits (`AllFit`); nothing else is asked. It
-- holds after every call, since a list's beginning is a list
pub the_book_adds_up : (ws : List ℕ) (c : ℕ) (b : Settings) (keys : List ℕ) (lent : List Release) (acts : List Act)
    → refusal (opens c b keys) ws (length lent) ≡ 0 → AllFit acts
    → let s = run (record { call = opens c b keys; lent = lent } ∷ acts) (on_words ws) in Claim ws s.words (window_of s.words) (book acts (new_book c b keys)) s.done
unfolding run
the_book_adds_up ws c b keys lent acts q f =
    let a : Act = record { call = opens c b keys; lent = lent } in
    claim_of ws (book acts (new_book c b keys)) (run acts (run_step a (on_words ws))) (runs acts (new_book c b keys) _ f (starts c b keys ws lent q))
    (performed ws (a ∷ acts) (on_words ws) (none_performed ws))

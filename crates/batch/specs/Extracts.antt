-- Taking out by marks, on words that hold a window. Assumes nothing.
use Rattle.std.specs.Prelude.{◌≡◌, refl, ℕ, zero, suc, ◌+◌, ◌-◌, ◌≤◌, ◌<◌, length, take}
use Rattle.std.proofs.Math.Path.{sym, ap, subst}
use Rattle.std.proofs.Common.{◌∙◌, arith}
use mathlib.Core.List.{List, [], ◌∷◌, ◌++◌}
use Rattle.column.specs.Edits.{kept_if, keep_by}
use Rattle.model.specs.Numbers.{max_clock}
use Rattle.model.specs.LettingGo.{total_after, frontier_after, resets}
use Rattle.model.specs.Window.{Window, queue, with_queue, with_frontier}
use Rattle.model.specs.Layout.{decode, window_of}
use Rattle.model.specs.declared.Entry.{Entry}
use Rattle.model.specs.declared.Release.{Release}
use Rattle.laws.specs.Entries.{Each}
use Rattle.laws.specs.Sound.{InRange}
use Rattle.laws.specs.Batches.{batch}
use Rattle.laws.specs.Pending.{Ranged}
use Rattle.laws.specs.Marks.{gone_by, extract_by, keep_by_take, counts_by}
use Rattle.laws.specs.Whole.{Whole, Holds, holds_whole}
use Rattle.report_words.specs.Report.{releases_of, length_releases}
use Rattle.batch.specs.Resets.{Went, went_by}
use Rattle.state_queue.specs.Steps.{few, live_is, entries_put}

-- entries that are kept are as they were
module _ (P : Entry → Type 0) where
  each_one : (m : ℕ) (e : Entry) (l : List Entry) → P e → Each P l → Each P (kept_if m e l)
  each_one zero e l p a = (p, a)
  each_one (suc m) e l p a = a

  pub each_kept : (ms : List ℕ) (l : List Entry) → Each P l → Each P (keep_by ms l)
  each_kept [] l a = a
  each_kept (m ∷ ms) [] a = tt
  each_kept (m ∷ ms) (e ∷ l) a = each_one m e (keep_by ms l) a.0 (each_kept ms l a.1)

-- ---- where nothing goes, everything stays: no entry, total, frontier or start is another

kept_all : (ms : List ℕ) (l : List Entry) → gone_by ms l ≡ [] → keep_by ms l ≡ l
kept_all [] l g = refl
kept_all (m ∷ ms) [] g = refl
kept_all (zero ∷ ms) (e ∷ l) g = ap (λ (r : List Entry). e ∷ r) (kept_all ms l g)
kept_all (suc m ∷ ms) (e ∷ l) g = absurd (omega (arith, ap length g))

pub extract_none : (ms : List ℕ) (w : Window) → gone_by ms w.queue.pending ≡ [] → (extract_by ms w).window ≡ w
unfolding extract_by total_after frontier_after
extract_none ms w g =
    let k = kept_all ms w.queue.pending g in
    λ i. with_frontier (frontier_after (g i) w.frontier) (with_queue (queue (total_after (g i) w.queue.total) (k i) w.queue.starts w.queue.bodies) w)

pub batch_none : (now : ℕ) (ms : List ℕ) (w : Window) → gone_by ms w.queue.pending ≡ [] → (batch now (extract_by ms w)).window ≡ (extract_by ms w).window
unfolding extract_by resets
batch_none now ms w g = λ i. with_queue (resets now (g i) (extract_by ms w).window.queue) (extract_by ms w).window

-- ---- taking out

module _ (ws ms : List ℕ) (h : Whole ws) (k : length ms ≡ 256) where
  abbrev w : Window
  w = window_of ws

  abbrev l : List Entry
  l = (window_of ws).queue.pending

  pub kept_is : keep_by (take (length l) ms) l ≡ keep_by ms l
  kept_is = keep_by_take ms l (omega (arith, few ws h))

  module _ (n count : ℕ) (core : List ℕ) (c : count ≡ length l) (g : releases_of n core ≡ gone_by ms (take count (decode ws).entries)) where
    pub gone_is : releases_of n core ≡ gone_by ms l
    gone_is = g ∙ ap (gone_by ms) (live_is ws h count c)

    -- the words of a window of which nothing goes, as they are
    pub none_holds : n ≡ 0 → Holds (extract_by ms w).window ws
    unfolding releases_of
    none_holds z =
        let g₀ : gone_by ms l ≡ [] = sym gone_is ∙ ap (λ (m : ℕ). releases_of m core) z in
        subst (λ (v : Window). Holds v ws) (sym (extract_none ms w g₀)) (holds_whole ws h)

    -- how many are left
    pub left_is : count - n ≡ length (keep_by (take (length l) ms) l)
    left_is = omega (arith, ap length kept_is, counts_by ms l, length_releases n core, ap length gone_is)

    -- the entries and the total, then the frontier
    pub extract_holds : (T F : ℕ) (ws₁ ws₂ : List ℕ) → T ≡ total_after (releases_of n core) w.queue.total → F ≡ frontier_after (releases_of n core) w.frontier
        → Holds (entries_put T (keep_by (take (length l) ms) l) w) ws₁ → Holds (with_frontier F (window_of ws₁)) ws₂ → Holds (extract_by ms w).window ws₂
    unfolding extract_by
    extract_holds T F ws₁ ws₂ t f a b =
        let t' : T ≡ total_after (gone_by ms l) w.queue.total = t ∙ ap (λ (gs : List Release). total_after gs w.queue.total) gone_is in
        let f' : F ≡ frontier_after (gone_by ms l) w.frontier = f ∙ ap (λ (gs : List Release). frontier_after gs w.frontier) gone_is in
        subst (λ (v : Window). Holds v ws₂) (ap (with_frontier F) a.is ∙ (λ i. with_frontier (f' i) (entries_put (t' i) (kept_is i) w))) b

-- ---- and then the resets

module _ (ws ms : List ℕ) (a : Ranged (window_of ws)) (n : ℕ) (core : List ℕ) (g : releases_of n core ≡ gone_by ms (window_of ws).queue.pending) where
  pub went_ranged : Went (InRange max_clock) (releases_of n core)
  went_ranged = rw g (went_by (InRange max_clock) ms (window_of ws).queue.pending a)

  module _ (ws₁ : List ℕ) (h : Holds (extract_by ms (window_of ws)).window ws₁) where
    -- nothing went, so that nothing is reset
    pub none_reset : (now : ℕ) → n ≡ 0 → Holds (batch now (extract_by ms (window_of ws))).window ws₁
    unfolding releases_of
    none_reset now z =
        let g₀ : gone_by ms (window_of ws).queue.pending ≡ [] = sym g ∙ ap (λ (m : ℕ). releases_of m core) z in
        subst (λ (v : Window). Holds v ws₁) (sym (batch_none now ms (window_of ws) g₀)) h

    pub kept_ranged : Ranged (window_of ws₁)
    unfolding extract_by
    kept_ranged = rw h.is (each_kept (InRange max_clock) ms (window_of ws).queue.pending a)

    pub batch_holds : (now : ℕ) (ws₂ : List ℕ) → Holds (with_queue (resets now (releases_of n core) (window_of ws₁).queue) (window_of ws₁)) ws₂
        → Holds (batch now (extract_by ms (window_of ws))).window ws₂
    unfolding extract_by
    batch_holds now ws₂ b =
        subst (λ (v : Window). Holds v ws₂) (λ i. with_queue (resets now (g i) (h.is i).queue) (h.is i)) b

-- One entry out of words that hold a window. Assumes nothing.
use Rattle.std.specs.Prelude.{◌≡◌, refl, ℕ, zero, suc, ◌+◌, ◌-◌, ◌≤◌, ◌<◌, length, Ok, Err, None, Some, Option}
use Rattle.std.proofs.Common.{sym, ◌∙◌, subst, le_of_suc-le-suc, not-suc-le-zero, arith}
use Rattle.std.proofs.Math.Path.{ap}
use mathlib.Core.List.{List, [], ◌∷◌, ◌++◌}
use Rattle.std.proofs.Math.ListN.{get_or}
use Rattle.model.specs.Numbers.{lesser, max_clock}
use Rattle.column.specs.Edits.{remove_at}
use Rattle.model.specs.Reasons.{lowered, release}
use Rattle.model.specs.Records.{found, sum}
use Rattle.model.specs.Seats.{reset_owner_queue_start}
use Rattle.model.specs.LettingGo.{without, take_out, remove_pending, lower_to}
use Rattle.model.specs.Window.{Window, Queue, queue, Step, stay, after, with_queue, with_frontier}
use Rattle.model.specs.Layout.{blank, window_of}
use Rattle.model.specs.declared.Hash.{Hash}
use Rattle.model.specs.declared.Entry.{Entry}
use Rattle.laws.specs.Sound.{InRange, Sound}
use Rattle.laws.specs.Valid.{rising_is}
use Rattle.laws.specs.Pending.{each_at}
use Rattle.laws.specs.Whole.{Whole, Holds, holds_whole}
use Rattle.records.specs.Places.{Finds, here_found, free_found}
use Rattle.report_words.specs.Report.{releases_of}
use Rattle.state_queue.specs.Steps.{entries_put, without_is}

-- the entry e at a place goes out
unfoldable pub out_at : ℕ → Entry → ℕ → ℕ → Window → Window
out_at i e r now w =
    with_frontier (lowered r e.height w.frontier)
    (with_queue (reset_owner_queue_start e.owner e.time now (queue (w.queue.total - e.estimate) (remove_at i w.queue.pending) w.queue.starts w.queue.bodies)) w)

-- an estimate is within the sum
within : (l : List Entry) (i : ℕ) → i < length l → (get_or l i blank).estimate ≤ sum l
unfolding sum
within [] i h = absurd (not-suc-le-zero h)
within (e ∷ l) zero h = omega arith
within (e ∷ l) (suc i) h = omega (arith, within l i (le_of_suc-le-suc h))

module _ (now : ℕ) (ws : List ℕ) (g : Sound now (window_of ws)) (i : ℕ) (h : i < length (window_of ws).queue.pending) where
  pub at_range : InRange now (get_or (window_of ws).queue.pending i blank)
  at_range = each_at (InRange now) (window_of ws).queue.pending i blank g.queue.each h

  pub at_total : (get_or (window_of ws).queue.pending i blank).estimate ≤ (window_of ws).queue.total
  at_total = rw g.queue.total (within (window_of ws).queue.pending i h)

-- the three steps
pub out_holds : (ws ws₁ ws₂ ws₃ : List ℕ) (i r now low : ℕ) (e : Entry) → e ≡ get_or (window_of ws).queue.pending i blank → low ≡ lowered r e.height (window_of ws).frontier
    → Holds (entries_put ((window_of ws).queue.total - (get_or (window_of ws).queue.pending i blank).estimate) (remove_at i (window_of ws).queue.pending) (window_of ws)) ws₁
    → Holds (with_queue (reset_owner_queue_start e.owner e.time now (window_of ws₁).queue) (window_of ws₁)) ws₂
    → Holds (with_frontier low (window_of ws₂)) ws₃ → Holds (out_at i e r now (window_of ws)) ws₃
unfolding out_at
out_holds ws ws₁ ws₂ ws₃ i r now low e q f a b c =
    let w = window_of ws in
    let first : window_of ws₁ ≡ entries_put (w.queue.total - e.estimate) (remove_at i w.queue.pending) w =
    a.is ∙ ap (λ (x : Entry). entries_put (w.queue.total - x.estimate) (remove_at i w.queue.pending) w) (sym q) in
    let then = b.is ∙ ap (λ (v : Window). with_queue (reset_owner_queue_start e.owner e.time now v.queue) v) first in
    subst (λ (v : Window). Holds v ws₃) (λ j. with_frontier (f j) (then j)) c

-- what it is to the model
module _ (now r : ℕ) (h : Hash) (ws : List ℕ) (g : Sound now (window_of ws)) where
  pub found_out : (i : ℕ) (e : Entry) → e ≡ get_or (window_of ws).queue.pending i blank → Finds h (window_of ws).queue.pending (Ok i)
      → remove_pending h r now (window_of ws) ≡ record { window = out_at i e r now (window_of ws); gone = release e r ∷ [] }
  unfolding remove_pending out_at
  found_out i e q f =
      let w = window_of ws in
      let u = rising_is 0 w.queue.pending g.queue.rising in
      let x = get_or w.queue.pending i blank in
      ap (λ (z : Option Entry). take_out r now z w) (here_found h w.queue.pending i u f).0
      ∙ ap (λ (k : Queue). record { window = with_frontier (lowered r x.height w.frontier) (with_queue (reset_owner_queue_start x.owner x.time now k) w); gone = release x r ∷ [] }) (sym (without_is h i w.queue u f))
      ∙ ap (λ (y : Entry). record { window = with_frontier (lowered r y.height w.frontier) (with_queue (reset_owner_queue_start y.owner y.time now (queue (w.queue.total - y.estimate) (remove_at i w.queue.pending) w.queue.starts w.queue.bodies)) w); gone = release y r ∷ [] }) (sym q)

  pub not_found : (i : ℕ) → Finds h (window_of ws).queue.pending (Err i) → remove_pending h r now (window_of ws) ≡ stay (window_of ws)
  unfolding remove_pending
  not_found i f =
      let w = window_of ws in
      ap (λ (z : Option Entry). take_out r now z w) (free_found h w.queue.pending i (rising_is 0 w.queue.pending g.queue.rising) f).0

-- a place that a search answered
module _ (now r : ℕ) (h : Hash) (ws ws' core core' : List ℕ) (hold : Whole ws) (g : Sound now (window_of ws)) where
  pub removed_holds : (i : ℕ) (e : Entry) → e ≡ get_or (window_of ws).queue.pending i blank → Finds h (window_of ws).queue.pending (Ok i)
      → Holds (out_at i e r now (window_of ws)) ws' → releases_of 1 core' ≡ releases_of 0 core ++ (release e r ∷ [])
      → Holds (remove_pending h r now (window_of ws)).window ws' × (releases_of 1 core' ≡ (remove_pending h r now (window_of ws)).gone)
  unfolding releases_of
  removed_holds i e q f a b = rw (found_out now r h ws g i e q f) (a, b)

  pub stays_held : (i : ℕ) → Finds h (window_of ws).queue.pending (Err i)
      → Holds (remove_pending h r now (window_of ws)).window ws × (releases_of 0 core ≡ (remove_pending h r now (window_of ws)).gone)
  unfolding releases_of
  stays_held i f = rw (not_found now r h ws g i f) (holds_whole ws hold, refl)

-- a height that was named, after it
pub then_lowered : (s : Step) (n : Option ℕ) (ws₁ ws₂ : List ℕ) → Holds s.window ws₁ → Holds (lower_to n (window_of ws₁)) ws₂ → Holds (after s (lower_to n)).window ws₂
then_lowered s n ws₁ ws₂ a b = subst (λ (v : Window). Holds v ws₂) (ap (lower_to n) a.is) b

pub lowered_holds : (ws ws' : List ℕ) (n f low : ℕ) → f ≡ (window_of ws).frontier → low ≡ lesser f n → Holds (with_frontier low (window_of ws)) ws' → Holds (lower_to (Some n) (window_of ws)) ws'
lowered_holds ws ws' n f low q e a = subst (λ (x : ℕ). Holds (with_frontier x (window_of ws)) ws') (e ∙ ap (λ (x : ℕ). lesser x n) q) a

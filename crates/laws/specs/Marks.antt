-- A mark for each entry, 0 where it stays, else its reason: what goes and what is kept by marks is what goes and is kept by the model's `goes`.
-- Assumes nothing.
use Rattle.std.specs.Prelude.{◌≡◌, refl, List, [], ◌∷◌, map, ℕ, zero, suc, ◌+◌, ◌≤◌, ◌<◌, length, get_or, take, drop}
use Rattle.std.proofs.Common.{sym, ap, ◌∙◌, le_of_suc-le-suc, not-suc-le-zero, arith}
use Rattle.column.specs.Edits.{kept_if, keep_by}
use Rattle.model.specs.Reasons.{release}
use Rattle.model.specs.Window.{Window, queue, Step, with_queue, with_frontier}
use Rattle.model.specs.LettingGo.{if_gone, if_kept, gone, kept, total_after, frontier_after, extract}
use Rattle.model.specs.declared.Entry.{Entry}
use Rattle.model.specs.declared.Release.{Release}

-- the entries whose mark is not 0, in order, with the mark as reason
abbrev pub gone_by : List ℕ → List Entry → List Release
gone_by [] l = []
gone_by (m ∷ ms) [] = []
gone_by (m ∷ ms) (e ∷ l) = if_gone m e (gone_by ms l)

-- `extract`, by marks
unfoldable pub extract_by : List ℕ → Window → Step
extract_by ms w = let gs = gone_by ms w.queue.pending in record {
  window = with_frontier (frontier_after gs w.frontier)
      (with_queue (queue (total_after gs w.queue.total) (keep_by ms w.queue.pending) w.queue.starts w.queue.bodies) w);
  gone = gs;
}

-- ---- marks are those of the entries, and may go on

pub gone_by_take : (ms : List ℕ) (l : List Entry) → gone_by (take (length l) ms) l ≡ gone_by ms l
gone_by_take [] [] = refl
gone_by_take [] (e ∷ l) = refl
gone_by_take (m ∷ ms) [] = refl
gone_by_take (m ∷ ms) (e ∷ l) = ap (if_gone m e) (gone_by_take ms l)

pub keep_by_take : (ms : List ℕ) (l : List Entry) → length l ≤ length ms → keep_by (take (length l) ms) l ≡ keep_by ms l
keep_by_take [] [] h = refl
keep_by_take [] (e ∷ l) h = absurd (not-suc-le-zero h)
keep_by_take (m ∷ ms) [] h = refl
keep_by_take (m ∷ ms) (e ∷ l) h = ap (kept_if m e) (keep_by_take ms l (le_of_suc-le-suc h))

gone_marked : (goes : Entry → ℕ) (l : List Entry) → gone_by (map goes l) l ≡ gone goes l
unfolding gone
gone_marked goes [] = refl
gone_marked goes (e ∷ l) = ap (if_gone (goes e) e) (gone_marked goes l)

kept_one : (r : ℕ) (e : Entry) (l m : List Entry) → l ≡ m → kept_if r e l ≡ if_kept r e m
kept_one zero e l m q = ap (λ (x : List Entry). e ∷ x) q
kept_one (suc r) e l m q = q

kept_marked : (goes : Entry → ℕ) (l : List Entry) → keep_by (map goes l) l ≡ kept goes l
unfolding kept
kept_marked goes [] = refl
kept_marked goes (e ∷ l) = kept_one (goes e) e (keep_by (map goes l) l) (kept goes l) (kept_marked goes l)

-- taking out by marks that are `goes` of each entry is `extract goes`
pub extract_marked : (goes : Entry → ℕ) (ms : List ℕ) (w : Window) → length w.queue.pending ≤ length ms
    → take (length w.queue.pending) ms ≡ map goes w.queue.pending → extract_by ms w ≡ extract goes w
unfolding extract extract_by
extract_marked goes ms w h e =
    let l = w.queue.pending in
    let g : gone_by ms l ≡ gone goes l = sym (gone_by_take ms l) ∙ ap (λ (x : List ℕ). gone_by x l) e ∙ gone_marked goes l in
    let k : keep_by ms l ≡ kept goes l = sym (keep_by_take ms l h) ∙ ap (λ (x : List ℕ). keep_by x l) e ∙ kept_marked goes l in
    λ i. record {
      window = with_frontier (frontier_after (g i) w.frontier) (with_queue (queue (total_after (g i) w.queue.total) (k i) w.queue.starts w.queue.bodies) w);
      gone = g i;
    }

-- ---- a scan over the entries and their marks

pub gone_one : (ms : List ℕ) (l : List Entry) (i : ℕ) (d : Entry) → i < length ms → i < length l → (get_or ms i 0 ≡ 0 → ⊥)
    → gone_by (drop i ms) (drop i l) ≡ release (get_or l i d) (get_or ms i 0) ∷ gone_by (drop (suc i) ms) (drop (suc i) l)
gone_one [] l i d h k n = absurd (not-suc-le-zero h)
gone_one (m ∷ ms) [] i d h k n = absurd (not-suc-le-zero k)
gone_one (zero ∷ ms) (e ∷ l) zero d h k n = absurd (n refl)
gone_one (suc m ∷ ms) (e ∷ l) zero d h k n = refl
gone_one (m ∷ ms) (e ∷ l) (suc i) d h k n = gone_one ms l i d (le_of_suc-le-suc h) (le_of_suc-le-suc k) n

pub gone_none : (ms : List ℕ) (l : List Entry) (i : ℕ) → i < length ms → i < length l → get_or ms i 0 ≡ 0
    → gone_by (drop i ms) (drop i l) ≡ gone_by (drop (suc i) ms) (drop (suc i) l)
gone_none [] l i h k z = absurd (not-suc-le-zero h)
gone_none (m ∷ ms) [] i h k z = absurd (not-suc-le-zero k)
gone_none (zero ∷ ms) (e ∷ l) zero h k z = refl
gone_none (suc m ∷ ms) (e ∷ l) zero h k z = absurd (omega arith)
gone_none (m ∷ ms) (e ∷ l) (suc i) h k z = gone_none ms l i (le_of_suc-le-suc h) (le_of_suc-le-suc k) z

pub gone_end : (ms : List ℕ) → gone_by ms [] ≡ []
gone_end [] = refl
gone_end (m ∷ ms) = refl

-- as many as there were are kept or gone
counts_one : (m c : ℕ) (e : Entry) (k : List Entry) (g : List Release) → length k + length g ≡ c → length (kept_if m e k) + length (if_gone m e g) ≡ suc c
counts_one zero c e k g h = omega arith
counts_one (suc m) c e k g h = omega arith

pub counts_by : (ms : List ℕ) (l : List Entry) → length (keep_by ms l) + length (gone_by ms l) ≡ length l
counts_by [] l = omega arith
counts_by (m ∷ ms) [] = refl
counts_by (m ∷ ms) (e ∷ l) = counts_one m (length l) e (keep_by ms l) (gone_by ms l) (counts_by ms l)

-- The planned hashes as rows of four words, and what they say of the plan. Assumes nothing.
use Rattle.std.specs.Prelude.{◌≡◌, refl, cond, List, [], ◌∷◌, ℕ, zero, suc, ◌+◌, ◌-◌, ◌*◌, ◌≤◌, ◌<◌, length, get_or, set, replicate, eqb, leb, Ok}
use Rattle.std.proofs.Math.Path.{sym, ap}
use Rattle.std.proofs.Common.{◌∙◌, not-suc-le-zero, le_of_suc-le-suc, length-set, length-take, get_or-set_same, get_or-set_other, get_or-take, take_at, eqb-true}
use Rattle.std.proofs.Math.Logic.{inl, inr}
use native.Mathlib.Omega.{arith}
use Rattle.std.proofs.Math.ListN.{take}
use Rattle.std.proofs.lemmas.Bool.{eqb-false}
use Rattle.model.specs.Lists.{pad}
use Rattle.model.specs.Hash.{hash, hashes_in, hashes_words}
use Rattle.model.specs.Layout.{blank, planned_words}
use Rattle.model.specs.Perform.{says}
use Rattle.model.specs.Queries.{plan_values}
use Rattle.model.specs.Races.{Planned, no_plan, planned, win_blocks, prefix_probe_plan}
use Rattle.model.specs.Window.{Window}
use Rattle.model.specs.declared.Hash.{Hash}
use Rattle.model.specs.declared.Entry.{Entry}
use Rattle.laws.specs.Numbers.{both}
use Rattle.laws.specs.Heads.{hashes_said}
use Rattle.laws.specs.Tables.{length_hashes}
use Rattle.plans.specs.Answers.{planned_part, plan_answer_says}
use Rattle.plans.specs.declared.PlanAnswer.{PlanAnswer}
use Rattle.plans.specs.Rows.{row_words, row_hash, hashes_from, rows_words, rows_hashes, hashes_rows, zero_row, rows_planned}
use Rattle.prefix_probe.specs.Walks.{hashes_at}
use Rattle.probe_plan.specs.Plans.{planned_by, header, Plans, count_planned}
use Rattle.probe_plan.specs.declared.Planning.{Planning}

abbrev pub none : Hash
none = hash 0 0 0 0

-- the hashes of a plan
abbrev pub hashes_of : Planned → List Hash
hashes_of no_plan = []
hashes_of (planned owner hashes end) = hashes

-- the first n of eight rows are hashes, and the others 0
pub record Rows (n : ℕ) (rows : List (List ℕ)) : Type 0 where
  pub few : n ≤ 8
  pub words : rows_words 8 rows ≡ planned_words (rows_hashes n rows)

-- ---- rows that are filled one by one

pub record Filled (i : ℕ) (hs : List Hash) (rows : List (List ℕ)) : Type 0 where
  pub room : length rows ≡ 8
  pub says : (j : ℕ) → j < i → row_hash (get_or rows j []) ≡ get_or hs j none
  pub zeros : (j : ℕ) → i ≤ j → row_words (get_or rows j []) ≡ zero_row

all_zero : (n j : ℕ) → row_words (get_or (replicate n zero_row) j []) ≡ zero_row
all_zero zero j = refl
all_zero (suc n) zero = refl
all_zero (suc n) (suc j) = all_zero n j

pub filled_start : (hs : List Hash) → Filled 0 hs (replicate 8 zero_row)
filled_start hs = record { room = refl; says = λ j h. absurd (not-suc-le-zero h); zeros = λ j h. all_zero 8 j }

pub filled_step : (i : ℕ) (hs : List Hash) (rows : List (List ℕ)) (r : List ℕ) → i < 8 → row_hash r ≡ get_or hs i none → Filled i hs rows → Filled (i + 1) hs (set rows i r)
filled_step i hs rows r h e f = record {
  room = length-set rows i r ∙ f.room;
  says = λ j b. elim (both (eqb j i)) [
    | inl q ↦ let q' = eqb-true j i q in rw (q', get_or-set_same rows i r [] (omega (arith, f.room))) e
    | inr q ↦ rw (get_or-set_other rows i j r [] (eqb-false j i q)) (f.says j (omega (arith, b, eqb-false j i q)))
  ];
  zeros = λ j b. rw (get_or-set_other rows i j r [] (λ q. omega (arith, q, b))) (f.zeros j (omega (arith, b)));
}

said : (n i : ℕ) (hs : List Hash) (rows : List (List ℕ)) → length hs ≡ n → ((j k : ℕ) → j < n → k ≡ i + j → row_hash (get_or rows k []) ≡ get_or hs j none) → hashes_from i n rows ≡ hs
said zero i [] rows e f = refl
said zero i (h ∷ hs) rows e f = absurd (omega arith)
said (suc n) i [] rows e f = absurd (omega arith)
said (suc n) i (h ∷ hs) rows e f =
    λ z. f 0 i (omega arith) (omega arith) z ∷ said n (suc i) hs rows (omega arith) (λ j k b q. f (suc j) k (omega arith) (omega arith)) z

module _ (n : ℕ) (hs : List Hash) (rows : List (List ℕ)) (e : length hs ≡ n) (h : n ≤ 8) where
  pub filled_hashes : Filled n hs rows → rows_hashes n rows ≡ hs
  unfolding rows_hashes
  filled_hashes f = said n 0 hs rows e (λ j k b q. let q' : k ≡ j = omega arith in rw q' (f.says j b))

  pub filled_done : Filled n hs rows → rows_words 8 rows ≡ planned_words hs
  filled_done f = rows_planned n rows h f.zeros ∙ ap planned_words (filled_hashes f)

-- ---- what eight rows say

first_hashes : (n k i : ℕ) (rows : List (List ℕ)) → n ≤ k → take n (hashes_from i k rows) ≡ hashes_from i n rows
first_hashes zero k i rows h = refl
first_hashes (suc n) zero i rows h = absurd (not-suc-le-zero h)
first_hashes (suc n) (suc k) i rows h = ap (λ (l : List Hash). row_hash (get_or rows i []) ∷ l) (first_hashes n k (suc i) rows (le_of_suc-le-suc h))

-- of n hashes and 0 after them the first n are these
module _ (n : ℕ) (hs : List Hash) (rows : List (List ℕ)) (len : length hs ≡ n) (few : n ≤ 8) (e : rows_words 8 rows ≡ planned_words hs) where
  pub rows_first : rows_hashes n rows ≡ hs
  unfolding rows_hashes planned_words
  rows_first =
      sym (first_hashes n 8 0 rows few) ∙ ap (take n) (sym (hashes_rows 8 rows) ∙ ap hashes_in e)
      ∙ ap (λ (k : ℕ). take k (hashes_in (planned_words hs))) (sym len) ∙ hashes_said 32 hs

  pub rows_of : Rows n rows
  rows_of = record { few = few; words = e ∙ ap planned_words (sym rows_first) }

pub count_hashes : (n : ℕ) (rows : List (List ℕ)) → length (rows_hashes n rows) ≡ n
unfolding rows_hashes
count_hashes n rows = from 0 n
  where
    from : (i n : ℕ) → length (hashes_from i n rows) ≡ n
    from i zero = refl
    from i (suc n) = ap suc (from (suc i) n)

-- ---- the rows of a plan

at_place : (l : List Entry) (ps : List ℕ) (j : ℕ) → j < length ps → (get_or l (get_or ps j 0) blank).hash ≡ get_or (hashes_at l ps) j none
unfolding hashes_at
at_place l [] j h = absurd (not-suc-le-zero h)
at_place l (p ∷ ps) zero h = refl
at_place l (p ∷ ps) (suc j) h = at_place l ps j (le_of_suc-le-suc h)

module _ (r : Planning) (w : Window) (p : Plans r w) (n : ℕ) (e : n ≡ cond (leb win_blocks r.n) r.n 0) where
  pub how_few : n ≤ r.n
  how_few = elim (both (leb win_blocks r.n)) [
    | inl q ↦ let e' = rw q at e in omega arith
    | inr q ↦ let e' = rw q at e in omega arith
  ]

  pub plan_list : hashes_of (prefix_probe_plan w) ≡ hashes_at w.queue.pending (take n r.places)
  unfolding planned_by hashes_at
  plan_list = elim (both (leb win_blocks r.n)) [
    | inl q ↦ let e' = rw q at e in ap hashes_of (sym p.is) ∙ rw (q, e')
    | inr q ↦ let e' = rw q at e in ap hashes_of (sym p.is) ∙ rw (q, e')
  ]

  pub plan_length : length (hashes_of (prefix_probe_plan w)) ≡ n
  plan_length = ap length plan_list ∙ count_planned w.queue.pending n r.places (omega (arith, how_few, p.few, p.room))

-- the row at j of such a walk
pub plan_row : (l : List Entry) (ps : List ℕ) (n j : ℕ) → j < n → n ≤ length ps → (get_or l (get_or ps j 0) blank).hash ≡ get_or (hashes_at l (take n ps)) j none
plan_row l ps n j h b =
    ap (λ (k : ℕ). (get_or l k blank).hash) (sym (get_or-take n ps j 0 h)) ∙ at_place l (take n ps) j (omega (arith, length-take n ps))

-- ---- the answer of the query: the header, and the words of its hashes, 0 after them

first_words : (hs : List Hash) → take (4 * length hs) (planned_words hs) ≡ hashes_words hs
unfolding planned_words pad
first_words hs = take_at (hashes_words hs) (replicate (32 - length (hashes_words hs)) 0) (4 * length hs) (length_hashes hs)

pub plan_said : (r : PlanAnswer) (p : Planned) → r.plan ≡ Ok (header p) → r.hashes ≡ planned_words (hashes_of p)
    → (plan_answer_says r ≡ says 0 (plan_values p)) × (r.hashes ≡ pad 32 0 (planned_part r))
unfolding planned_words hashes_words
plan_said r no_plan e h = rw (e, h) (refl, refl)
plan_said r (planned owner hs end) e h = rw (e, h) (ap (λ (l : List ℕ). says 0 (owner ∷ length hs ∷ end ∷ l)) (first_words hs), ap (pad 32 0) (sym (first_words hs)))

-- The walk up from the lowest entry as a selection: among the entries whose mark is 0 the first at the expected height, where none is lower.
-- Assumes nothing.
use Rattle.std.specs.Prelude.{◌≡◌, Bool, cond, ◌&&◌, ◌||◌, get_or, set, drop, replicate, eqb, ltb, leb}
use Rattle.std.proofs.Math.Path.{refl, sym, ap}
use Rattle.std.proofs.Common.{◌∙◌, not-suc-le-zero, drop-cons, get_or-set_other}
use Rattle.std.proofs.Math.Bool.{true, false}
use mathlib.Core.List.{List, [], ◌∷◌, ◌++◌, append-nil, append_assoc}
use Rattle.std.proofs.Math.Logic.{inl, inr}
use Prim.Native.Nat.{ℕ, zero, suc, ◌+◌, ◌-◌, ◌≤◌, ◌<◌}
use native.Mathlib.Omega.{arith}
use Rattle.std.proofs.Math.ListN.{length, take, length-set, length-replicate}
use Rattle.std.proofs.Math.Seq.{drop-length, take-suc-set, get_or-set_same}
use borrow.Author.Tests.{eq-eqb, ne_eqb, eqb-true, eqb-false, ltb-true, ltb-false, le-leb, lt-leb, leb-false}
use Rattle.model.specs.Numbers.{max_height, next_height}
use Rattle.column.specs.Edits.{keep_by}
use Rattle.model.specs.Layout.{blank}
use Rattle.model.specs.Races.{insert_by_height, by_height, walk, expected_after}
use Rattle.model.specs.declared.Hash.{Hash}
use Rattle.model.specs.declared.Entry.{Entry}
use Rattle.laws.specs.Numbers.{both, next_height_le}

-- an entry that is left and lower than expected, so that the walk is past it; one that is left and at the height expected
unfoldable pub behind : ℕ → ℕ → ℕ → Bool
behind zero height expected = ltb height expected
behind (suc mark) height expected = false

unfoldable pub follows : ℕ → ℕ → ℕ → Bool
follows zero height expected = eqb height expected
follows (suc mark) height expected = false

module _ (height expected : ℕ) where
  pub behind_marked : (mark : ℕ) → (mark ≡ 0 → ⊥) → behind mark height expected ≡ false
  unfolding behind
  behind_marked zero n = absurd (n refl)
  behind_marked (suc mark) n = refl

  pub follows_marked : (mark : ℕ) → (mark ≡ 0 → ⊥) → follows mark height expected ≡ false
  unfolding follows
  follows_marked zero n = absurd (n refl)
  follows_marked (suc mark) n = refl

-- some entry is behind
unfoldable pub lower_in : ℕ → List ℕ → List Entry → Bool
lower_in x [] es = false
lower_in x (m ∷ ms) [] = false
lower_in x (m ∷ ms) (e ∷ es) = behind m e.height x || lower_in x ms es

-- the place of the first that follows; where none does, the number of entries
unfoldable pub first_in : ℕ → List ℕ → List Entry → ℕ
first_in x [] es = length es
first_in x (m ∷ ms) [] = 0
first_in x (m ∷ ms) (e ∷ es) = cond (follows m e.height x) 0 (suc (first_in x ms es))

-- ---- how a sorted list starts

abbrev Below : ℕ → List Entry → Type 0
Below x [] = ⊥
Below x (e ∷ b) = e.height < x

abbrev AtLeast : ℕ → List Entry → Type 0
AtLeast x [] = Unit {0}
AtLeast x (e ∷ b) = x ≤ e.height

below_walk : (x n : ℕ) (b : List Entry) → Below x b → walk n x b ≡ []
unfolding walk
below_walk x zero b h = refl
below_walk x (suc n) [] h = absurd h
below_walk x (suc n) (e ∷ b) h = rw (ne_eqb e.height x (λ q. omega (arith, q)))

above_walk : (x n : ℕ) (b : List Entry) → AtLeast (suc x) b → walk n x b ≡ []
unfolding walk
above_walk x zero b h = refl
above_walk x (suc n) [] h = refl
above_walk x (suc n) (e ∷ b) h = rw (ne_eqb e.height x (λ q. omega (arith, q)))

-- one more that is lower, one more before a lower one, one more among those that are not lower
below_insert : (x : ℕ) (y : Entry) (b : List Entry) → y.height < x → Below x (insert_by_height y b)
unfolding insert_by_height
below_insert x y [] h = h
below_insert x y (e ∷ b) h = elim (both (leb y.height e.height)) [
  | inl q ↦ rw q h
  | inr q ↦ rw q (omega (arith, leb-false y.height e.height q))
]

below_kept : (x : ℕ) (y : Entry) (b : List Entry) → Below x b → x ≤ y.height → Below x (insert_by_height y b)
unfolding insert_by_height
below_kept x y [] h k = absurd h
below_kept x y (e ∷ b) h k = rw (lt-leb y.height e.height (omega arith)) h

least_insert : (x : ℕ) (y : Entry) (b : List Entry) → AtLeast x b → x ≤ y.height → AtLeast x (insert_by_height y b)
unfolding insert_by_height
least_insert x y [] h k = k
least_insert x y (e ∷ b) h k = elim (both (leb y.height e.height)) [
  | inl q ↦ rw q k
  | inr q ↦ rw q h
]

-- one at the height itself stands first, one above it stands later
first_insert : (x : ℕ) (y : Entry) (b : List Entry) → AtLeast x b → y.height ≡ x → insert_by_height y b ≡ y ∷ b
unfolding insert_by_height
first_insert x y [] h k = refl
first_insert x y (e ∷ b) h k = rw (le-leb y.height e.height (omega arith))

later_insert : (x : ℕ) (y e : Entry) (b : List Entry) → e.height ≡ x → x < y.height → insert_by_height y (e ∷ b) ≡ e ∷ insert_by_height y b
unfolding insert_by_height
later_insert x y e b h k = rw (lt-leb y.height e.height (omega arith))

-- ---- what the search finds of the sorted list

never : {A : Type 0} → false ≡ true → A
never q = let z : ◌≡◌ {A = ℕ} 0 1 = cc in absurd (omega arith)

module _ (x : ℕ) where
  lower_below : (ms : List ℕ) (es : List Entry) → lower_in x ms es ≡ true → Below x (by_height (keep_by ms es))
  unfolding lower_in by_height behind
  lower_below [] es q = never q
  lower_below (m ∷ ms) [] q = never q
  lower_below (zero ∷ ms) (e ∷ es) q = elim (both (ltb e.height x)) [
    | inl k ↦ below_insert x e _ (ltb-true e.height x k)
    | inr k ↦ let q' = rw k at q in below_kept x e _ (lower_below ms es q') (omega (arith, ltb-false e.height x k))
  ]
  lower_below (suc m ∷ ms) (e ∷ es) q = lower_below ms es q

  not_lower : (ms : List ℕ) (es : List Entry) → length es ≤ length ms → lower_in x ms es ≡ false → AtLeast x (by_height (keep_by ms es))
  unfolding lower_in by_height behind
  not_lower [] [] n q = tt
  not_lower [] (e ∷ es) n q = absurd (omega arith)
  not_lower (m ∷ ms) [] n q = tt
  not_lower (zero ∷ ms) (e ∷ es) n q = elim (both (ltb e.height x)) [
    | inl k ↦ let q' = rw k at q in never (sym q')
    | inr k ↦ let q' = rw k at q in least_insert x e _ (not_lower ms es (omega arith) q') (omega (arith, ltb-false e.height x k))
  ]
  not_lower (suc m ∷ ms) (e ∷ es) n q = not_lower ms es (omega arith) q

  none_above : (ms : List ℕ) (es : List Entry) → length es ≤ length ms → lower_in x ms es ≡ false → first_in x ms es ≡ length es → AtLeast (suc x) (by_height (keep_by ms es))
  unfolding lower_in first_in by_height behind follows
  none_above [] [] n q f = tt
  none_above [] (e ∷ es) n q f = absurd (omega arith)
  none_above (m ∷ ms) [] n q f = tt
  none_above (zero ∷ ms) (e ∷ es) n q f = elim (both (ltb e.height x)) [
    | inl k ↦ let q' = rw k at q in never (sym q')
    | inr k ↦ let q' = rw k at q in elim (both (eqb e.height x)) [
      | inl j ↦ let f' = rw j at f in absurd (omega arith)
      | inr j ↦ let f' = rw j at f in least_insert (suc x) e _ (none_above ms es (omega arith) q' (omega arith)) (omega (arith, ltb-false e.height x k, eqb-false e.height x j))
    ]
  ]
  none_above (suc m ∷ ms) (e ∷ es) n q f = none_above ms es (omega arith) q (omega arith)

  -- the first at the height is the next of the sorted list, and stands at it
  here_first : (ms : List ℕ) (es : List Entry) → length es ≤ length ms → lower_in x ms es ≡ false → first_in x ms es < length es
      → ((get_or es (first_in x ms es) blank).height ≡ x) × (by_height (keep_by ms es) ≡ get_or es (first_in x ms es) blank ∷ by_height (keep_by (set ms (first_in x ms es) 1) es))
  unfolding lower_in first_in by_height behind follows
  here_first [] [] n q f = absurd (omega arith)
  here_first [] (e ∷ es) n q f = absurd (omega arith)
  here_first (m ∷ ms) [] n q f = absurd (omega arith)
  here_first (zero ∷ ms) (e ∷ es) n q f = elim (both (ltb e.height x)) [
    | inl k ↦ let q' = rw k at q in never (sym q')
    | inr k ↦ let q' = rw k at q in elim (both (eqb e.height x)) [
      | inl j ↦ rw j (eqb-true e.height x j, first_insert x e _ (not_lower ms es (omega arith) q') (eqb-true e.height x j))
      | inr j ↦ let f' = rw j at f in let ih = here_first ms es (omega arith) q' (omega arith) in
          rw j (ih.0, ap (insert_by_height e) ih.1 ∙ later_insert x e _ _ ih.0 (omega (arith, ltb-false e.height x k, eqb-false e.height x j)))
    ]
  ]
  here_first (suc m ∷ ms) (e ∷ es) n q f = let ih = here_first ms es (omega arith) q (omega arith) in (ih.0, ih.1)

  -- what is lower further on is lower in the whole
  pub lower_drop : (i : ℕ) (ms : List ℕ) (es : List Entry) → lower_in x (drop i ms) (drop i es) ≡ true → lower_in x ms es ≡ true
  unfolding lower_in
  lower_drop zero ms es q = q
  lower_drop (suc i) [] es q = never q
  lower_drop (suc i) (m ∷ ms) [] q = never (sym (lower_nil (drop i ms)) ∙ q)
    where
      lower_nil : (ms : List ℕ) → lower_in x ms [] ≡ false
      lower_nil [] = refl
      lower_nil (m ∷ ms) = refl
  lower_drop (suc i) (m ∷ ms) (e ∷ es) q = rw (lower_drop i ms es q) (or_true (behind m e.height x))
    where
      or_true : (b : Bool) → b || true ≡ true
      or_true true = refl
      or_true false = refl

-- ---- the hashes of some places

unfoldable pub hashes_at : List Entry → List ℕ → List Hash
hashes_at l [] = []
hashes_at l (p ∷ ps) = (get_or l p blank).hash ∷ hashes_at l ps

hashes_append : (l : List Entry) (ps qs : List ℕ) → hashes_at l (ps ++ qs) ≡ hashes_at l ps ++ hashes_at l qs
unfolding hashes_at
hashes_append l [] qs = refl
hashes_append l (p ∷ ps) qs = ap (λ (hs : List Hash). (get_or l p blank).hash ∷ hs) (hashes_append l ps qs)

expected_append : (hs : List Hash) (h : Hash) (x : ℕ) → expected_after (hs ++ (h ∷ [])) x ≡ next_height (expected_after hs x)
unfolding expected_after
expected_append [] h x = refl
expected_append (g ∷ hs) h x = expected_append hs h (next_height x)

keep_all : (k : ℕ) (l : List Entry) → keep_by (replicate k 0) l ≡ l
keep_all zero l = refl
keep_all (suc k) [] = refl
keep_all (suc k) (e ∷ l) = ap (λ (r : List Entry). e ∷ r) (keep_all k l)

empty : (l : List Entry) → length l ≡ 0 → l ≡ []
empty [] h = refl
empty (e ∷ l) h = absurd (omega arith)

length_sorted : (l : List Entry) → length (by_height l) ≡ length l
unfolding insert_by_height by_height
length_sorted [] = refl
length_sorted (e ∷ l) = inserted (by_height l) ∙ ap suc (length_sorted l)
  where
    inserted : (b : List Entry) → length (insert_by_height e b) ≡ suc (length b)
    inserted [] = refl
    inserted (x ∷ b) = elim (both (leb e.height x.height)) [ inl q ↦ rw q | inr q ↦ rw q (ap suc (inserted b)) ]

walk_on : (k j x : ℕ) (e : Entry) (b r : List Entry) → k ≡ suc j → b ≡ e ∷ r → e.height ≡ x → walk k x b ≡ e.hash ∷ walk j (next_height x) r
unfolding walk
walk_on k j x e b r p q h = (λ i. walk (p i) x (q i)) ∙ rw (eq-eqb e.height x h)

-- ---- the walk: after n entries, at the height expected, with the taken ones marked

pub record Walking (limit first : ℕ) (l : List Entry) (n : ℕ) (places marks : List ℕ) (expected : ℕ) : Type 0 where
  pub few : n ≤ limit
  pub room : length places ≡ 8
  pub marked : length marks ≡ 256
  pub left : n + length (keep_by marks l) ≡ length l
  pub so_far : walk limit first (by_height l) ≡ hashes_at l (take n places) ++ walk (limit - n) expected (by_height (keep_by marks l))
  pub end : expected ≡ expected_after (hashes_at l (take n places)) first
  pub low : expected ≤ max_height
  pub within : (k : ℕ) → k < n → get_or places k 0 < length l

-- its result
pub record Walked (limit first : ℕ) (l : List Entry) (n : ℕ) (places : List ℕ) (height : ℕ) : Type 0 where
  pub few : n ≤ limit
  pub room : length places ≡ 8
  pub hashes : walk limit first (by_height l) ≡ hashes_at l (take n places)
  pub end : height ≡ expected_after (hashes_at l (take n places)) first
  pub within : (k : ℕ) → k < n → get_or places k 0 < length l

module _ (limit first : ℕ) (l : List Entry) where
  pub walk_start : first ≤ max_height → Walking limit first l 0 (replicate 8 0) (replicate 256 0) first
  unfolding hashes_at expected_after
  walk_start h = record {
    few = omega arith;
    room = refl;
    marked = length-replicate {A = ℕ} 256 0;
    left = omega (arith, ap length (keep_all 256 l));
    so_far = (let z : limit ≡ limit - 0 = omega arith in λ i. walk (z i) first (by_height (sym (keep_all 256 l) i)));
    end = refl;
    low = h;
    within = λ k b. absurd (not-suc-le-zero b);
  }

  module _ (n : ℕ) (places marks : List ℕ) (x : ℕ) (w : Walking limit first l n places marks x) where
    stopped : walk (limit - n) x (by_height (keep_by marks l)) ≡ [] → Walked limit first l n places x
    stopped q = record { few = w.few; room = w.room; hashes = w.so_far ∙ ap (λ (r : List Hash). hashes_at l (take n places) ++ r) q ∙ append-nil _; end = w.end; within = w.within }

    -- no entry is left; one is behind; the limit is met; none is at the height expected
    pub walk_over : length l ≤ n → Walked limit first l n places x
    unfolding by_height
    walk_over h = stopped (ap (λ (r : List Entry). walk (limit - n) x (by_height r)) (empty (keep_by marks l) (omega (arith, w.left))) ∙ above_walk x (limit - n) [] tt)

    pub walk_behind : (i : ℕ) → lower_in x (drop i marks) (drop i l) ≡ true → Walked limit first l n places x
    walk_behind i q = stopped (below_walk x (limit - n) _ (lower_below x marks l (lower_drop x i marks l q)))

    pub walk_full : n ≡ limit → Walked limit first l n places x
    unfolding walk
    walk_full q = stopped (ap (λ (k : ℕ). walk k x (by_height (keep_by marks l))) (let z : limit - n ≡ 0 = omega arith in z))

    pub walk_gap : length l ≤ 256 → lower_in x marks l ≡ false → first_in x marks l ≡ length l → Walked limit first l n places x
    walk_gap m q f = stopped (above_walk x (limit - n) _ (none_above x marks l (omega (arith, w.marked)) q f))

    pub walk_step : (at : ℕ) → length l ≤ 256 → limit ≤ 8 → n < limit → lower_in x marks l ≡ false → first_in x marks l ≡ at → at < length l
        → Walking limit first l (suc n) (set places n at) (set marks at 1) (next_height x)
    unfolding walk hashes_at
    walk_step at m b k q f a =
        let here = rw f at (here_first x marks l (omega (arith, w.marked)) q (omega arith)) in
        let rest = walk (limit - suc n) (next_height x) (by_height (keep_by (set marks at 1) l)) in
        let taken : take (suc n) (set places n at) ≡ take n places ++ (at ∷ []) = take-suc-set places n at (omega (arith, w.room)) in
        record {
          few = k;
          room = length-set places n at ∙ w.room;
          marked = length-set marks at 1 ∙ w.marked;
          left = omega (arith, w.left, ap length here.1, length_sorted (keep_by marks l), length_sorted (keep_by (set marks at 1) l));
          so_far = w.so_far ∙ ap (λ (r : List Hash). hashes_at l (take n places) ++ r) (walk_on (limit - n) (limit - suc n) x (get_or l at blank) _ _ (omega arith) here.1 here.0)
              ∙ sym (ap (λ (ps : List ℕ). hashes_at l ps ++ rest) taken ∙ ap (λ (hs : List Hash). hs ++ rest) (hashes_append l (take n places) (at ∷ [])) ∙ append_assoc (hashes_at l (take n places)) ((get_or l at blank).hash ∷ []) rest);
          end = ap next_height w.end ∙ sym (ap (λ (ps : List ℕ). expected_after (hashes_at l ps) first) taken ∙ ap (λ (hs : List Hash). expected_after hs first) (hashes_append l (take n places) (at ∷ [])) ∙ expected_append (hashes_at l (take n places)) (get_or l at blank).hash first);
          low = next_height_le x;
          within = λ j c. elim (both (eqb j n)) [
            | inl e ↦ let e' = eqb-true j n e in rw (e', get_or-set_same places n at 0 (omega (arith, w.room))) a
            | inr e ↦ rw (get_or-set_other places n j at 0 (eqb-false j n e)) (w.within j (omega (arith, eqb-false j n e)))
          ];
        }

-- ---- the search, from the last entry down

lower_nil : (x : ℕ) (ms : List ℕ) → lower_in x ms [] ≡ false
unfolding lower_in
lower_nil x [] = refl
lower_nil x (m ∷ ms) = refl

first_nil : (x : ℕ) (ms : List ℕ) → first_in x ms [] ≡ 0
unfolding first_in
first_nil x [] = refl
first_nil x (m ∷ ms) = refl

-- the entries from i on: none is lower, and the first that follows stands at `at`
pub record Searching (x n limit i at : ℕ) (ms : List ℕ) (l : List Entry) : Type 0 where
  pub bound : i ≤ length l
  pub calm : lower_in x (drop i ms) (drop i l) ≡ false
  pub place : at ≡ i + first_in x (drop i ms) (drop i l)
  pub room : at < length l → n < limit

-- at the search's end an entry that follows is found
abbrev pub Found : ℕ → ℕ → List Entry → Type 0
Found i at l = i ≡ 0 → at < length l

module _ (x n limit : ℕ) (ms : List ℕ) (l : List Entry) where
  pub search_start : (k : ℕ) → k ≡ length l → Searching x n limit k k ms l
  search_start k e = record {
    bound = omega arith;
    calm = ap (lower_in x (drop k ms)) (none k e) ∙ lower_nil x (drop k ms);
    place = omega (arith, ap (first_in x (drop k ms)) (none k e) ∙ first_nil x (drop k ms));
    room = λ h. absurd (omega arith);
  }
    where
      none : (k : ℕ) → k ≡ length l → drop k l ≡ []
      none k e = ap (λ (m : ℕ). drop m l) e ∙ drop-length l

  module _ (i : ℕ) (long : length l ≤ length ms) (h : i < length l) where
    both_cons : {A : Type 0} (f : List ℕ → List Entry → A) → f (drop i ms) (drop i l) ≡ f (get_or ms i 0 ∷ drop (suc i) ms) (get_or l i blank ∷ drop (suc i) l)
    both_cons f = (λ j. f (drop-cons ms i 0 (omega arith) j) (drop-cons l i blank h j))

    pub search_behind : behind (get_or ms i 0) (get_or l i blank).height x ≡ true → lower_in x (drop i ms) (drop i l) ≡ true
    unfolding lower_in
    search_behind q = both_cons (lower_in x) ∙ rw q

    pub search_step : (k at r : ℕ) (b : Bool) → k ≡ suc i → Searching x n limit k at ms l → behind (get_or ms i 0) (get_or l i blank).height x ≡ false
        → follows (get_or ms i 0) (get_or l i blank).height x ≡ b → r ≡ cond b i at → (b ≡ true → n < limit) → Searching x n limit i r ms l
    unfolding lower_in first_in
    search_step k at r b e s g f q room = record {
      bound = omega arith;
      calm = both_cons (lower_in x) ∙ rw g (ap (λ (m : ℕ). lower_in x (drop m ms) (drop m l)) (sym e) ∙ s.calm);
      place = q ∙ placed b f ∙ sym (ap (λ (m : ℕ). i + m) (both_cons (first_in x)));
      room = λ m. allowed b room q m;
    }
      where
        rest : ℕ
        rest = first_in x (drop (suc i) ms) (drop (suc i) l)

        later : at ≡ suc i + rest
        later = s.place ∙ ap (λ (m : ℕ). m + first_in x (drop m ms) (drop m l)) e

        placed : (b : Bool) → follows (get_or ms i 0) (get_or l i blank).height x ≡ b → cond b i at ≡ i + cond (follows (get_or ms i 0) (get_or l i blank).height x) 0 (suc rest)
        placed true f = rw f (omega arith)
        placed false f = rw f (omega (arith, later))

        allowed : (b : Bool) → (b ≡ true → n < limit) → r ≡ cond b i at → r < length l → n < limit
        allowed true room q m = room refl
        allowed false room q m = s.room (omega (arith, q))

  first_le : (ms : List ℕ) (es : List Entry) → first_in x ms es ≤ length es
  unfolding first_in
  first_le [] es = omega arith
  first_le (m ∷ ms) [] = omega arith
  first_le (m ∷ ms) (e ∷ es) = elim (both (follows m e.height x)) [
    | inl q ↦ rw q (omega arith)
    | inr q ↦ rw q (omega (arith, first_le ms es))
  ]

  pub search_done : (i at : ℕ) → Searching x n limit i at ms l → i ≤ 0 → (lower_in x ms l ≡ false) × ((first_in x ms l ≡ at) × (at ≤ length l))
  search_done i at s h =
      let z : i ≡ 0 = omega arith in
      let f : at ≡ 0 + first_in x ms l = s.place ∙ ap (λ (m : ℕ). m + first_in x (drop m ms) (drop m l)) z in
      (ap (λ (m : ℕ). lower_in x (drop m ms) (drop m l)) (sym z) ∙ s.calm, (omega arith, omega (arith, first_le ms l)))

-- the search is at its end without an entry that follows, or not
pub gap_met : (i at count : ℕ) → eqb i 0 && eqb at count ≡ true → (i ≡ 0) × (at ≡ count)
gap_met i at count q = elim (both (eqb i 0)) [
  | inl e ↦ let q' = rw e at q in (eqb-true i 0 e, eqb-true at count q')
  | inr e ↦ let q' = rw e at q in never q'
]

pub gap_left : (i at count : ℕ) → eqb i 0 && eqb at count ≡ false → i ≡ 0 → at ≡ count → ⊥
gap_left i at count q e a = let q' = rw (eq-eqb i 0 e, eq-eqb at count a) at q in never (sym q')

-- the limit is met, or not yet
pub limit_met : (b : Bool) (n limit : ℕ) → b && eqb n limit ≡ true → n ≡ limit
limit_met true n limit q = eqb-true n limit q
limit_met false n limit q = never q

pub limit_left : (b : Bool) (n limit : ℕ) → n ≤ limit → b && eqb n limit ≡ false → b ≡ true → n < limit
limit_left true n limit h q r = omega (arith, eqb-false n limit q)
limit_left false n limit h q r = never r

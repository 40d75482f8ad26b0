-- The records of the words as the model's list of entries: what is said of record i by its words is said of the list's elements. Assumes nothing.
use Rattle.std.specs.Prelude.{◌≡◌, refl, ◌⊎◌, true, ◌||◌, cond, List, [], ◌∷◌, ◌++◌, ℕ, zero, suc, ◌+◌, ◌-◌, ◌≤◌, ◌<◌, length, get_or, take, eqb, ltb, leb}
use Rattle.std.proofs.Common.{sym, ap, ◌∙◌, inl, inr, ⊎_elim, le_antisymm, le_of_suc-le-suc, not-suc-le-zero, add-one, arith, eqb-true, ltb-true, ltb-false, ne_eqb, le-leb}
use Rattle.std.proofs.lemmas.Bool.{eqb-false}
use Rattle.model.specs.Numbers.{lesser}
use Rattle.model.specs.Hash.{less}
use Rattle.model.specs.Records.{sum}
use Rattle.model.specs.Seats.{sooner, oldest}
use Rattle.model.specs.Layout.{blank, rows, entry_ok, rising}
use Rattle.model.specs.declared.Entry.{Entry}
use Rattle.laws.specs.Numbers.{both, and_left, and_right, and_both}
use Rattle.facts.specs.Flags.{Says, says_iff, says_le, fold_every}
use Rattle.facts.specs.Words.{clock, owner, time, estimate, entry, fields, fields_fit, rises, sum_of, earlier, oldest_of}
use Rattle.facts.specs.Lists.{length_first, first_more, first_is}

-- ---- ranges

pub fields_are : (ws : List ℕ) (i : ℕ) → fields_fit ws i ≡ entry_ok (clock ws) (entry ws i)
unfolding fields_fit fields entry_ok entry
fields_are ws i = fold_every (fields ws i)

-- ---- hashes that rise

abbrev pub Rises : List Entry → Type 0
Rises l = (i : ℕ) → suc i < length l → less (get_or l i blank).hash (get_or l (suc i) blank).hash ≡ true

pub says_rising : (l : List Entry) → Says (rising l) (Rises l)
unfolding rising
says_rising [] = record { gives = λ e i h. absurd (not-suc-le-zero h); from = λ f. refl }
says_rising (x ∷ []) = record { gives = λ e i h. absurd (omega arith); from = λ f. refl }
says_rising (x ∷ y ∷ l) =
    let rest = says_rising (y ∷ l) in
    let first = less x.hash y.hash in
    record {
      gives = λ e. at (and_left first (rising (y ∷ l)) e) (rest.gives (and_right first (rising (y ∷ l)) e));
      from = λ f. and_both first (rising (y ∷ l)) (f 0 (omega arith)) (rest.from (λ i h. f (suc i) (omega arith)));
    }
  where
    at : less x.hash y.hash ≡ true → Rises (y ∷ l) → Rises (x ∷ y ∷ l)
    at a f zero h = a
    at a f (suc i) h = f i (le_of_suc-le-suc h)

-- the same of the first n records, by their words
pub rises_are : (ws : List ℕ) (n : ℕ) → n ≤ 256 → Says (rising (take n (rows 256 ws))) ((i : ℕ) → i < n → rises ws i ≡ true)
unfolding rises
rises_are ws n h = says_iff (says_rising (take n (rows 256 ws))) (λ f. to f) (λ f i b. fro f i (rw (length_first ws n h) at b))
  where
    to : Rises (take n (rows 256 ws)) → (i : ℕ) → i < n → (eqb i 0 || less (entry ws (i - 1)).hash (entry ws i).hash) ≡ true
    to f zero b = refl
    to f (suc i) b =
        let e : suc i - 1 ≡ i = omega arith in
        rw (ne_eqb (suc i) 0 (λ q. omega arith), e)
        (sym (λ j. less (first_is ws n i h (omega arith) j).hash (first_is ws n (suc i) h b j).hash) ∙ f i (rw (length_first ws n h) b))

    fro : ((i : ℕ) → i < n → (eqb i 0 || less (entry ws (i - 1)).hash (entry ws i).hash) ≡ true) → (i : ℕ) → suc i < n
        → less (get_or (take n (rows 256 ws)) i blank).hash (get_or (take n (rows 256 ws)) (suc i) blank).hash ≡ true
    fro f i b =
        let e : suc i - 1 ≡ i = omega arith in
        (λ j. less (first_is ws n i h (omega arith) j).hash (first_is ws n (suc i) h b j).hash) ∙ (rw (ne_eqb (suc i) 0 (λ q. omega arith), e) at (f (suc i) b))

-- ---- the sum

sum_snoc : (es : List Entry) (e : Entry) → sum (es ++ (e ∷ [])) ≡ sum es + e.estimate
unfolding sum
sum_snoc [] e = omega arith
sum_snoc (d ∷ es) e = omega (arith, sum_snoc es e)

pub sum_is : (ws : List ℕ) (n : ℕ) → n ≤ 256 → sum_of ws n ≡ sum (take n (rows 256 ws))
unfolding sum_of sum entry
sum_is ws zero h = refl
sum_is ws (suc n) h =
    ap (λ (k : ℕ). k + estimate ws n) (sum_is ws n (omega arith)) ∙ sym (ap sum (first_more ws n h) ∙ sum_snoc (take n (rows 256 ws)) (entry ws n))

-- ---- the oldest of a seat

-- `earlier` is the lesser of the two, where none is above all
pub record Earlier (t m : ℕ) : Type 0 where
  pub new : earlier t m ≤ t + 1
  pub old : 0 < m → earlier t m ≤ m
  pub positive : 0 < earlier t m
  pub either : (earlier t m ≡ t + 1) ⊎ (earlier t m ≡ m)

pub earlier_is : (t m : ℕ) → Earlier t m
unfolding earlier
earlier_is t m = elim (both (eqb m 0)) [
  | inl q ↦ let z = eqb-true m 0 q in record { new = rw q (omega arith); old = λ h. absurd (omega arith); positive = rw q (omega arith); either = inl (rw q) }
  | inr q ↦ let n = eqb-false m 0 q in elim (both (ltb (t + 1) m)) [
    | inl p ↦ let l = ltb-true (t + 1) m p in
        record { new = rw (q, p) (omega arith); old = λ h. rw (q, p) (omega arith); positive = rw (q, p) (omega arith); either = inl (rw (q, p)) }
    | inr p ↦ let l = ltb-false (t + 1) m p in
        record { new = rw (q, p) l; old = λ h. rw (q, p) (omega arith); positive = rw (q, p) (omega (arith, n)); either = inr (rw (q, p)) }
  ]
]

-- the model's way to say it
pub sooner_is : (t m : ℕ) → earlier t m ≡ sooner (suc t) m
unfolding earlier lesser
sooner_is t zero = add-one t
sooner_is t (suc u) = rw (ne_eqb (suc u) 0 (λ q. omega arith), add-one) (elim (both (ltb (suc t) (suc u))) [
  | inl p ↦ let l = ltb-true (suc t) (suc u) p in rw (p, le-leb (suc t) (suc u) (omega arith))
  | inr p ↦ let l = ltb-false (suc t) (suc u) p in rw p (elim (both (leb (suc t) (suc u))) [
    | inl q ↦ let e : suc u ≡ suc t = omega (arith, (says_le (suc t) (suc u)).gives q) in rw q e
    | inr q ↦ rw q
  ])
])

swap_le : (t u m : ℕ) → earlier t (earlier u m) ≤ earlier u (earlier t m)
swap_le t u m =
    let A = earlier_is t (earlier u m) in
    let B = earlier_is u m in
    let C = earlier_is u (earlier t m) in
    let D = earlier_is t m in
    let x : earlier t (earlier u m) ≤ earlier u m = A.old B.positive in
    ⊎_elim (λ e. omega (arith, e, x, B.new))
    (λ e. ⊎_elim (λ d. omega (arith, e, d, A.new)) (λ d. omega (arith, e, d, x, B.old (omega (arith, d, D.positive)))) D.either)
    C.either

swap : (t u m : ℕ) → sooner (suc t) (sooner (suc u) m) ≡ sooner (suc u) (sooner (suc t) m)
swap t u m =
    sym ((λ j. sooner_is t (sooner_is u m j) j)) ∙ le_antisymm (swap_le t u m) (swap_le u t m) ∙ (λ j. sooner_is u (sooner_is t m j) j)

oldest_snoc : (s : ℕ) (es : List Entry) (e : Entry)
    → oldest s (es ++ (e ∷ [])) ≡ cond (eqb e.owner s) (sooner (suc e.time) (oldest s es)) (oldest s es)
unfolding oldest
oldest_snoc s [] e = refl
oldest_snoc s (d ∷ es) e =
    let X = oldest s es in
    ap (λ (k : ℕ). cond (eqb d.owner s) (sooner (suc d.time) k) k) (oldest_snoc s es e)
    ∙ elim (both (eqb d.owner s)) [
      | inl p ↦ elim (both (eqb e.owner s)) [
        | inl q ↦ rw (p, q) (swap d.time e.time X)
        | inr q ↦ rw (p, q)
      ]
      | inr p ↦ rw p
    ]

pub oldest_is : (ws : List ℕ) (s n : ℕ) → n ≤ 256 → oldest_of ws s n ≡ oldest s (take n (rows 256 ws))
unfolding oldest_of oldest entry
oldest_is ws s zero h = refl
oldest_is ws s (suc n) h =
    (λ j. cond (eqb (owner ws n) s) (sooner_is (time ws n) (oldest_is ws s n (omega arith) j) j) (oldest_is ws s n (omega arith) j))
    ∙ sym (ap (oldest s) (first_more ws n h) ∙ oldest_snoc s (take n (rows 256 ws)) (entry ws n))

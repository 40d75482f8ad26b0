-- The log of the reports, place by place: each counted place stands in it once, and what it holds stood in the report at that place. Assumes nothing.
use Rattle.std.specs.Prelude.{◌≡◌, refl, ◌⊎◌, cond, ℕ, suc, ◌+◌, ◌≤◌, ◌<◌, eqb, length}
use Rattle.std.proofs.Common.{sym, ap, inl, inr, arith, eqb-true, eq-eqb, ne_eqb}
use Rattle.std.proofs.Math.Option.{some}
use mathlib.Core.List.Memᴰ
use mathlib.Core.List.{List, [], ◌∷◌, Memᴰ}
use Rattle.std.proofs.Math.ListN.{get_elem?}
use Rattle.std.proofs.lemmas.Bool.{eqb-false}
use Rattle.model.specs.Reasons.{release}
use Rattle.model.specs.declared.Release.{Release}
use Rattle.laws.specs.Numbers.{both}
use Rattle.laws.specs.Bag.{weigh, weigh_append, Same, Pick, here, there}
use Rattle.history.specs.Run.{Done}
use Rattle.history.specs.Book.{Mark}
use Rattle.history.specs.Reports.{Told, anew, counts, tells, places_by, places_at}
use Rattle.history.proofs.Lines.{naming, told}
use Rattle.history.proofs.Steps.{logs, log_of}
use Rattle.history.proofs.Perms.{hits, hits_self, find, mark_discrete}

-- 1 where a mark names the place k of the call i
unfoldable pub names_place : ℕ → ℕ → Mark → ℕ
names_place i k n = cond (eqb n.call i) (cond (eqb n.place k) 1 0) 0

-- what the place of a mark holds
abbrev pub held_by : Mark → Release
held_by n = release n.entry n.reason

-- ---- once

told_other : (i j a k : ℕ) (gs : List Release) → (j ≡ i → ⊥) → weigh (names_place i k) (told j a gs) ≡ 0
unfolding weigh told names_place
told_other i j a k [] q = refl
told_other i j a k (g ∷ gs) q = rw (ne_eqb j i q) (omega (arith, told_other i j (suc a) k gs q))

told_before : (i a k : ℕ) (gs : List Release) → k < a → weigh (names_place i k) (told i a gs) ≡ 0
unfolding weigh told names_place
told_before i a k [] b = refl
told_before i a k (g ∷ gs) b = rw (eq-eqb i i refl, ne_eqb a k (λ (q : a ≡ k). omega arith)) (omega (arith, told_before i (suc a) k gs (omega arith)))

told_once : (i a k : ℕ) (gs : List Release) → a ≤ k → k < a + length gs → weigh (names_place i k) (told i a gs) ≡ 1
unfolding weigh told names_place
told_once i a k [] b c = absurd (omega arith)
told_once i a k (g ∷ gs) b c = rw (eq-eqb i i refl) (elim (both (eqb a k)) [
  | inl q ↦ rw q (omega (arith, told_before i (suc a) k gs (omega (arith, eqb-true))))
  | inr q ↦ rw q (omega (arith, told_once i (suc a) k gs (omega (arith, eqb-false a k q)) (omega arith)))
])

-- one more call, by what it tells
before_by : (t : Told) (j i k : ℕ) (log : List Mark) → (j ≡ i → ⊥) → weigh (names_place i k) log ≡ 0 → weigh (names_place i k) (logs j t log) ≡ 0
unfolding weigh
before_by anew j i k log n z = refl
before_by (counts gs) j i k log n z = omega (arith, weigh_append (names_place i k) log (told j 0 gs), z, told_other i j 0 k gs n)

log_before : (h : List Done) (i k : ℕ) → length h ≤ i → weigh (names_place i k) (log_of h) ≡ 0
unfolding weigh log_of
log_before [] i k b = refl
log_before (d ∷ h) i k b = before_by (tells d) (length h) i k (log_of h) (λ (q : length h ≡ i). omega arith) (log_before h i k (omega arith))

once_by : (t : Told) (j i k : ℕ) (log : List Mark) (earlier : List Release) → (i ≡ j → weigh (names_place i k) log ≡ 0) → (k < length earlier → weigh (names_place i k) log ≡ 1)
    → k < length (places_by i t j earlier) → weigh (names_place i k) (logs j t log) ≡ 1
once_by anew j i k log earlier z f b = absurd (omega arith)
once_by (counts gs) j i k log earlier z f b =
    let s = weigh_append (names_place i k) log (told j 0 gs) in
    elim (both (eqb i j)) [
      | inl q ↦
          let e = eqb-true i j q in
          let b' = rw q at b in
          let o : weigh (names_place i k) (told j 0 gs) ≡ 1 = rw (← e) (told_once i 0 k gs (omega arith) (omega arith)) in
          omega (arith, s, z e)
      | inr q ↦
          let b' = rw q at b in
          omega (arith, s, f b', told_other i j 0 k gs (λ (e : j ≡ i). eqb-false i j q (sym e)))
    ]

pub log_once : (h : List Done) (i k : ℕ) → k < length (places_at h i) → weigh (names_place i k) (log_of h) ≡ 1
unfolding log_of places_at
log_once [] i k b = absurd (omega arith)
log_once (d ∷ h) i k b =
    once_by (tells d) (length h) i k (log_of h) (places_at h i) (λ (e : i ≡ length h). log_before h i k (omega arith)) (λ c. log_once h i k c) b

-- ---- true

told_true : (i a : ℕ) (gs : List Release) (n : Mark) → Memᴰ n (told i a gs) → (k : ℕ) × (n.call ≡ i) × (n.place ≡ a + k) × (get_elem? gs k ≡ some (held_by n))
unfolding told
told_true i a [] n m = absurd (Memᴰ.not-nil m)
told_true i a (g ∷ gs) n m = by (Memᴰ.cases_cons m) (λ t. told_true i (suc a) gs n t)
  where
    by : (n ≡ naming i a g.reason g.entry) ⊎ Memᴰ n (told i (suc a) gs)
        → (Memᴰ n (told i (suc a) gs) → (k : ℕ) × (n.call ≡ i) × (n.place ≡ suc a + k) × (get_elem? gs k ≡ some (held_by n)))
        → (k : ℕ) × (n.call ≡ i) × (n.place ≡ a + k) × (get_elem? (g ∷ gs) k ≡ some (held_by n))
    by (inl q) f = (0, ap (λ x. x.call) q, omega (arith, ap (λ x. x.place) q), ap (λ x. some (held_by x)) (sym q))
    by (inr t) f = let r = f t in (suc r.0, r.1, omega (arith, r.2), r.3)

true_by : (t : Told) (j : ℕ) (log : List Mark) (earlier : ℕ → List Release) (n : Mark)
    → (Memᴰ n log → (n.call < j) × (get_elem? (earlier n.call) n.place ≡ some (held_by n)))
    → Memᴰ n (logs j t log) → (n.call < suc j) × (get_elem? (places_by n.call t j (earlier n.call)) n.place ≡ some (held_by n))
true_by anew j log earlier n f m = absurd (Memᴰ.not-nil m)
true_by (counts gs) j log earlier n f m = by (Memᴰ.append_cases log m)
  where
    by : Memᴰ n log ⊎ Memᴰ n (told j 0 gs) → (n.call < suc j) × (get_elem? (cond (eqb n.call j) gs (earlier n.call)) n.place ≡ some (held_by n))
    by (inl t) = let r = f t in (omega (arith, r.0), rw (ne_eqb n.call j (λ (q : n.call ≡ j). omega (arith, r.0))) r.1)
    by (inr t) =
        let r = told_true j 0 gs n t in
        let e : n.place ≡ r.0 = omega (arith, r.2) in
        (omega (arith, r.1), rw (eq-eqb n.call j r.1, e) r.3)

pub log_true : (h : List Done) (n : Mark) → Memᴰ n (log_of h) → (n.call < length h) × (get_elem? (places_at h n.call) n.place ≡ some (held_by n))
unfolding log_of places_at
log_true [] n m = absurd (Memᴰ.not-nil m)
log_true (d ∷ h) n m = true_by (tells d) (length h) (log_of h) (places_at h) n (λ t. log_true h n t) m

-- ---- membership goes along with `Same`

mem_hits : {n : Mark} {l : List Mark} → Memᴰ n l → 1 ≤ weigh (hits mark_discrete n) l
unfolding weigh
mem_hits {n} (Memᴰ.head {x = x} q) = let w : hits mark_discrete n x ≡ 1 = rw (← q) (hits_self mark_discrete n) in omega arith
mem_hits (Memᴰ.tail m) = omega (arith, mem_hits m)

pick_mem : {n : Mark} {l m : List Mark} → Pick n l m → Memᴰ n l
pick_mem here = Memᴰ.head refl
pick_mem (there p) = Memᴰ.tail (pick_mem p)

pub same_mem : {n : Mark} (xs ys : List Mark) → Same xs ys → Memᴰ n xs → Memᴰ n ys
same_mem {n} xs ys s m = pick_mem (find mark_discrete n ys (omega (arith, s (hits mark_discrete n), mem_hits m))).1

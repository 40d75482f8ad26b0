-- Laws about the index: the last place of a bucket, an index of no hash, one hash more, another list with the same first hashes. Assumes nothing.
use Rattle.std.specs.Prelude.{◌≡◌, ℕ, zero, suc, ◌+◌, ◌-◌, ◌*◌, ◌<◌, ◌≤◌, true, false, cond, List, length, take, replicate, ◌==◌, ◌≢◌, slice_index, slice_set, refl}
use Rattle.std.proofs.Common.{sym, ◌∙◌, add-one, length-set, get_or-take, get_or-set_same, get_or-set_other}
use Rattle.std.proofs.Math.Path.{ap}
use Rattle.std.proofs.Math.Logic.{inl, inr}
use native.Mathlib.Omega.{arith}
use Rattle.std.proofs.lemmas.List.{get_or-replicate, length-replicate}
use borrow.Author.Tests.{eqb-true, eqb-false}
use Rattle.model.specs.Hash.{hash}
use Rattle.model.specs.declared.Hash.{Hash}
use Rattle.laws.specs.Numbers.{both, lesser_first, lesser_second, lesser_le_first, lesser_le_second}
use Rattle.listed.specs.Index.{hash_at, bucket, last, linked, Sized, Indexed, Zeros, Empty, Alike}

-- ---- buckets

pub bucket_below : (h : Hash) → bucket h < 1024
unfolding bucket
bucket_below h = omega arith

pub is_below : (b : ℕ) (h : Hash) → b ≡ bucket h → b < 1024
is_below b h e = omega (arith, bucket_below h)

module _ (b : ℕ) (list : List ℕ) where
  pub last_le : (n : ℕ) → last b list n ≤ n
  unfolding last
  last_le zero = omega arith
  last_le (suc n) = elim (both (bucket (hash_at list n) == b)) [
    | inl q ↦ rw q (omega arith)
    | inr q ↦ rw q (omega (arith, last_le n))
  ]

  last_hit : (n : ℕ) → (bucket (hash_at list n) == b) ≡ true → last b list (suc n) ≡ suc n
  unfolding last
  last_hit n q = rw q

  last_miss : (n : ℕ) → (bucket (hash_at list n) == b) ≡ false → last b list (suc n) ≡ last b list n
  unfolding last
  last_miss n q = rw q

  -- the place that it says is in the bucket
  pub last_in : (n i : ℕ) → last b list n ≡ suc i → (i < n) × (bucket (hash_at list i) ≡ b)
  unfolding last
  last_in zero i e = absurd (omega arith)
  last_in (suc n) i e = elim (both (bucket (hash_at list n) == b)) [
    | inl q ↦
        let k : i ≡ n = omega (arith, last_hit n q) in
        (omega arith, ap (λ (m : ℕ). bucket (hash_at list m)) k ∙ eqb-true (bucket (hash_at list n)) b q)
    | inr q ↦ let r = last_in n i (sym (last_miss n q) ∙ e) in (omega (arith, r.0), r.1)
  ]

  -- those after it are not
  pub last_out : (n k : ℕ) → last b list n ≤ k → k < n → bucket (hash_at list k) ≢ b
  last_out zero k h l e = omega arith
  last_out (suc n) k h l e = elim (both (bucket (hash_at list n) == b)) [
    | inl q ↦ omega (arith, last_hit n q)
    | inr q ↦ elim (both (k == n)) [
      | inl t ↦ eqb-false (bucket (hash_at list n)) b q (ap (λ (m : ℕ). bucket (hash_at list m)) (sym (eqb-true k n t)) ∙ e)
      | inr t ↦ last_out n k (omega (arith, last_miss n q)) (omega (arith, eqb-false k n t)) e
    ]
  ]

last_alike : (b n : ℕ) (l m : List ℕ) → Alike n l m → last b l n ≡ last b m n
unfolding last
last_alike b zero l m s = refl
last_alike b (suc n) l m s =
    let r = last_alike b n l m (λ i h. s i (omega arith)) in
    let e = ap bucket (s n (omega arith)) in
    λ i. cond (e i == b) (suc n) (r i)

-- ---- links

pub linked_all : (n size : ℕ) → n ≤ size - 1024 → linked n size ≡ n
unfolding linked
linked_all n size h = lesser_first n (size - 1024) h

pub linked_full : (n size : ℕ) → size - 1024 ≤ n → linked n size ≡ size - 1024
unfolding linked
linked_full n size h = lesser_second n (size - 1024) h

pub linked_le : (n size : ℕ) → linked n size ≤ n
unfolding linked
linked_le n size = lesser_le_first n (size - 1024)

pub linked_le_links : (n size : ℕ) → linked n size ≤ size - 1024
unfolding linked
linked_le_links n size = lesser_le_second n (size - 1024)

-- ---- an index of no hash

pub zeros_more : (n : ℕ) (l : List ℕ) → n < length l → Zeros n l → Zeros (n + 1) (slice_set l n 0)
zeros_more n l h z = λ k i. elim (both (k == n)) [
  | inl q ↦ ap (λ (j : ℕ). slice_index (slice_set l n 0) j) (eqb-true k n q) ∙ get_or-set_same l n 0 0 h
  | inr q ↦ get_or-set_other l n k 0 0 (eqb-false k n q) ∙ z k (omega (arith, eqb-false k n q))
]

pub indexed_none : (index : List ℕ) → Sized index → Zeros 1024 index → Empty index
unfolding last
indexed_none index s c = λ list.
    let z : linked 0 (length index) ≡ 0 = linked_all 0 (length index) (omega arith) in
    record { sized = s; heads = λ b h. c b h ∙ ap (last b list) (sym z); links = λ i h. absurd (omega (arith, z)) }

pub zeros_none : (n : ℕ) → 1024 ≤ n → n ≤ 4294967296 → Empty (replicate n 0)
zeros_none n p q =
    let e : length (replicate {A = ℕ} n 0) ≡ n = length-replicate {A = ℕ} n 0 in
    indexed_none (replicate n 0) (omega (arith, e), omega (arith, e)) (λ b h. get_or-replicate n b 0 0 (omega arith))

-- ---- another list

-- lists that agree in the first n hashes' words
pub alike_words : (n : ℕ) (l m : List ℕ) → ((k : ℕ) → k < 4 * n → slice_index l k ≡ slice_index m k) → Alike n l m
alike_words n l m s = λ i h.
    let a = s (4 * i) (omega arith) in
    let b = s (4 * i + 1) (omega arith) in
    let c = s (4 * i + 2) (omega arith) in
    let d = s (4 * i + 3) (omega arith) in
    λ j. hash (a j) (b j) (c j) (d j)

pub alike_taken : (n : ℕ) (l m : List ℕ) → take (4 * n) l ≡ take (4 * n) m → Alike n l m
alike_taken n l m e =
    alike_words n l m (λ k h. sym (get_or-take (4 * n) l k 0 h) ∙ ap (λ (x : List ℕ). slice_index x k) e ∙ get_or-take (4 * n) m k 0 h)

-- an index is one of every list with the same first n hashes
pub indexed_alike : (n : ℕ) (l m index : List ℕ) → Alike n l m → Indexed n l index → Indexed n m index
indexed_alike n l m index s g =
    let k = linked n (length index) in
    let few : k ≤ n = linked_le n (length index) in
    let upto : (j : ℕ) → j ≤ n → Alike j l m = λ j h i q. s i (omega arith) in
    record {
      sized = g.sized;
      heads = λ b h. g.heads b h ∙ last_alike b k l m (upto k few);
      links = λ i h.
          let e = ap bucket (s i (omega arith)) in
          g.links i h ∙ ap (λ (b : ℕ). last b l i) e ∙ last_alike (bucket (hash_at m i)) i l m (upto i (omega arith));
    }

-- also of the list with a word written after them
pub indexed_set : (n k x : ℕ) (l index : List ℕ) → 4 * n ≤ k → Indexed n l index → Indexed n (slice_set l k x) index
indexed_set n k x l index h g =
    indexed_alike n l (slice_set l k x) index (alike_words n l (slice_set l k x) (λ j i. sym (get_or-set_other l k j x 0 (λ e. omega (arith, e))))) g

-- ---- one hash more

module _ (n : ℕ) (list index : List ℕ) (g : Indexed n list index) where
  -- no link is left for it
  pub indexed_full : length index - 1024 ≤ n → Indexed (n + 1) list index
  indexed_full h =
      let e : linked n (length index) ≡ linked (n + 1) (length index) = linked_full n (length index) h ∙ sym (linked_full (n + 1) (length index) (omega arith)) in
      record { sized = g.sized; heads = λ b k. g.heads b k ∙ ap (last b list) e; links = λ i k. g.links i (omega (arith, e)) }

  module _ (h : n < length index - 1024) (b : ℕ) (e : b ≡ bucket (hash_at list n)) where
    -- its link first
    abbrev linking : List ℕ
    linking = slice_set index (1024 + n) (slice_index index b)

    -- then the head of its bucket
    abbrev more : List ℕ
    more = slice_set linking b (n + 1)

    below : b < 1024
    below = omega (arith, e, bucket_below (hash_at list n))

    long : length linking ≡ length index
    long = length-set index (1024 + n) (slice_index index b)

    size : length more ≡ length index
    size = length-set linking b (n + 1) ∙ long

    before : linked n (length index) ≡ n
    before = linked_all n (length index) (omega arith)

    after : linked (n + 1) (length more) ≡ suc n
    after = ap (linked (n + 1)) size ∙ linked_all (n + 1) (length index) (omega arith) ∙ add-one n

    heads_more : (k : ℕ) → k < 1024 → slice_index more k ≡ last k list (suc n)
    heads_more k l = elim (both (bucket (hash_at list n) == k)) [
      | inl q ↦
          let r : k ≡ b = sym (e ∙ eqb-true (bucket (hash_at list n)) k q) in
          ap (λ (j : ℕ). slice_index more j) r ∙ get_or-set_same linking b (n + 1) 0 (omega (arith, long, below)) ∙ add-one n ∙ sym (last_hit k list n q)
      | inr q ↦
          get_or-set_other linking b k (n + 1) 0 (λ r. eqb-false (bucket (hash_at list n)) k q (sym e ∙ sym r))
          ∙ get_or-set_other index (1024 + n) k (slice_index index b) 0 (λ r. omega (arith, r))
          ∙ g.heads k l
          ∙ ap (last k list) before
          ∙ sym (last_miss k list n q)
    ]

    links_more : (i : ℕ) → i < suc n → slice_index more (1024 + i) ≡ last (bucket (hash_at list i)) list i
    links_more i l =
        get_or-set_other linking b (1024 + i) (n + 1) 0 (λ r. omega (arith, below, r))
        ∙ elim (both (i == n)) [
          | inl q ↦
              let r : i ≡ n = eqb-true i n q in
              ap (λ (j : ℕ). slice_index linking (1024 + j)) r
              ∙ get_or-set_same index (1024 + n) (slice_index index b) 0 (omega arith)
              ∙ g.heads b below
              ∙ ap (last b list) before
              ∙ ap (λ (x : ℕ). last x list n) e
              ∙ ap (λ (j : ℕ). last (bucket (hash_at list j)) list j) (sym r)
          | inr q ↦
              get_or-set_other index (1024 + n) (1024 + i) (slice_index index b) 0 (λ r. eqb-false i n q (omega (arith, r)))
              ∙ g.links i (omega (arith, before, eqb-false i n q))
        ]

    pub indexed_more : Indexed (n + 1) list more
    indexed_more = record {
      sized = (omega (arith, size, g.sized.0), omega (arith, size, g.sized.1));
      heads = λ k l. heads_more k l ∙ ap (last k list) (sym after);
      links = λ i l. links_more i (omega (arith, after));
    }

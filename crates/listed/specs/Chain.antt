-- A search along the links of a bucket: from what is left to look at, the hash is at no later place. Assumes nothing.
use Rattle.std.specs.Prelude.{◌≡◌, ℕ, ◌+◌, ◌-◌, ◌*◌, ◌<◌, ◌≤◌, true, false, List, length, ◌==◌, ◌≢◌, nat_lt, slice_index}
use Rattle.std.proofs.Common.{sym, ap, ◌∙◌, inl, inr, arith, eqb-true, ltb-true, ltb-false}
use Rattle.std.proofs.lemmas.Bool.{eqb-false}
use Rattle.model.specs.Hash.{base, wide, key, hash, same}
use Rattle.model.specs.declared.Hash.{Hash}
use Rattle.laws.specs.Numbers.{both}
use Rattle.hash.specs.Words.{Words}
use Rattle.listed.specs.Index.{hash_at, bucket, last, linked, Indexed}
use Rattle.listed.specs.Laws.{bucket_below, last_le, last_in, last_out}

-- ---- the same hash is in the same bucket

wide_both : (x y u v : ℕ) → u < base → v < base → wide x u ≡ wide y v → (x ≡ y) × (u ≡ v)
unfolding wide
wide_both x y u v a b e = (omega arith, omega arith)

same_bucket : (g h : Hash) → Words g → Words h → same g h ≡ true → bucket g ≡ bucket h
unfolding same key
same_bucket g h p q e =
    let d = wide_both _ _ _ _ p.d q.d (eqb-true _ _ e) in
    let c = wide_both _ _ _ _ p.c q.c d.0 in
    let b = wide_both _ _ _ _ p.b q.b c.0 in
    λ i. bucket (hash (b.0 i) (b.1 i) (c.1 i) (d.1 i))

-- ---- the search

-- each number of a list is a word
abbrev pub AllWords : List ℕ → Type 0
AllWords l = (i : ℕ) → slice_index l i < base

-- the hash is at none of the places from j to before m
abbrev pub Absent : Hash → List ℕ → ℕ → ℕ → Type 0
Absent h l j m = (k : ℕ) → j ≤ k → k < m → same h (hash_at l k) ≡ false

-- what is left to look at ends in the bucket before j
abbrev pub Chain : Hash → List ℕ → ℕ → ℕ → Type 0
Chain h l m j = (j ≤ m) × ((0 < j → bucket (hash_at l (j - 1)) ≡ bucket h) × Absent h l j m)

module _ (h : Hash) (hw : Words h) (l : List ℕ) (lw : AllWords l) where
  words_at : (k : ℕ) → Words (hash_at l k)
  words_at k = record { a = lw (4 * k); b = lw (4 * k + 1); c = lw (4 * k + 2); d = lw (4 * k + 3) }

  elsewhere : (k : ℕ) → (bucket (hash_at l k) ≢ bucket h) → same h (hash_at l k) ≡ false
  elsewhere k n = elim (both (same h (hash_at l k))) [
    | inl q ↦ absurd (n (sym (same_bucket h (hash_at l k) hw (words_at k) q)))
    | inr q ↦ q
  ]

  chain_last : (m p j : ℕ) → p ≤ m → Absent h l p m → j ≡ last (bucket h) l p → Chain h l m j
  chain_last m p j i f e = (
    omega (arith, last_le (bucket h) l p),
    (
      λ z. (last_in (bucket h) l p (j - 1) (sym e ∙ omega arith)).1,
      λ k a b. elim (both (nat_lt k p)) [
        | inl q ↦ elsewhere k (last_out (bucket h) l p k (omega (arith, e)) (ltb-true k p q))
        | inr q ↦ f k (ltb-false k p q) b
      ],
    ),
  )

  module _ (n : ℕ) (index : List ℕ) (g : Indexed n l index) where
    pub chain_start : (j : ℕ) → j ≡ slice_index index (bucket h) → Chain h l (linked n (length index)) j
    chain_start j e =
        let m = linked n (length index) in
        chain_last m m j (omega arith) (λ k a b. absurd (omega arith)) (e ∙ g.heads (bucket h) (bucket_below h))

    pub chain_next : (j i : ℕ) → Chain h l (linked n (length index)) j → 0 < j → i ≡ j - 1 → same h (hash_at l i) ≡ false
        → (x : ℕ) → x ≡ slice_index index (1024 + i) → Chain h l (linked n (length index)) x
    chain_next j i c z r s x e =
        let m = linked n (length index) in
        let b : bucket (hash_at l i) ≡ bucket h = ap (λ (k : ℕ). bucket (hash_at l k)) r ∙ c.1.0 z in
        chain_last m i x (omega (arith, c.0)) (λ k a q. elim (both (k == i)) [
          | inl t ↦ ap (λ (y : ℕ). same h (hash_at l y)) (eqb-true k i t) ∙ s
          | inr t ↦ c.1.1 k (omega (arith, eqb-false k i t)) q
        ]) (e ∙ g.links i (omega (arith, c.0)) ∙ ap (λ (y : ℕ). last y l i) b)

-- a link leads to an earlier place
pub next_less : (n : ℕ) (l index : List ℕ) → Indexed n l index → (j i : ℕ) → j ≤ linked n (length index) → 0 < j → i ≡ j - 1 → slice_index index (1024 + i) < j
next_less n l index g j i h z r = omega (arith, g.links i (omega arith), last_le (bucket (hash_at l i)) l i)

-- A derived `==` and `<` of two hashes go word by word, the model's `same` and `less` by one number: that they answer alike. Assumes nothing.
use Rattle.std.specs.Prelude.{Some, ◌≡◌, ℕ, ◌<◌, ◌&&◌, Bool, true, false, eqb, ltb, refl}
use Rattle.std.specs.declared.cmp.Ordering.{Ordering}
use Rattle.std.specs.declared.cmp.Ordering.TheVariants.{Less, Equal, Greater}
use Rattle.std.specs.Ordering.{MatchOrdering, is_lt, ordering_then, partial_ordering_then, is_some_and, nat_cmp, partial_lt}
use Rattle.std.proofs.lemmas.Cmp.{ranked}
use Rattle.std.proofs.Common.{sym, ◌∙◌, arith, lt-ltb, le-ltb}
use Rattle.model.specs.Hash.{base, wide, key, same, less}
use Rattle.model.specs.declared.Hash.{Hash}
use Rattle.model.specs.contracts.HashPartialOrd.TheImpl.{partial_cmp-value}

-- the words of a hash are words
pub record Words (h : Hash) : Type 0 where
  pub a : h.a < base
  pub b : h.b < base
  pub c : h.c < base
  pub d : h.d < base

-- ---- one more word

pub wide_equal : (x y u v : ℕ) → u < base → v < base → (eqb x y && eqb u v) ≡ eqb (wide x u) (wide y v)
unfolding wide
wide_equal x y u v a b = grind arith

-- how one number compares to another
abbrev Compares : Ordering → ℕ → ℕ → Type 0
Compares o x y = MatchOrdering o (x < y) (x ≡ y) (y < x)

-- the heavier words decide, where they differ
pub wide_then : (x y u v : ℕ) (o s : Ordering) → u < base → v < base → Compares o x y → Compares s u v → Compares (ordering_then o s) (wide x u) (wide y v)
unfolding wide
wide_then x y u v Less s a b h t = omega arith
wide_then x y u v Equal Less a b h t = omega arith
wide_then x y u v Equal Equal a b h t = omega arith
wide_then x y u v Equal Greater a b h t = omega arith
wide_then x y u v Greater s a b h t = omega arith

pub is_lt_ltb : (x y : ℕ) (o : Ordering) → Compares o x y → is_lt o ≡ ltb x y
is_lt_ltb x y Less h = sym (lt-ltb x y h)
is_lt_ltb x y Equal h = sym (le-ltb x y (omega arith))
is_lt_ltb x y Greater h = sym (le-ltb x y (omega arith))

-- ---- hashes

-- what the derived `<` makes of four comparisons
pub chained : (o p q r : Ordering) → is_some_and is_lt (partial_ordering_then (Some o) (partial_ordering_then (Some p) (partial_ordering_then (Some q) (Some r)))) ≡ is_lt (ordering_then (ordering_then (ordering_then o p) q) r)
chained Less p q r = refl
chained Greater p q r = refl
chained Equal Less q r = refl
chained Equal Greater q r = refl
chained Equal Equal Less r = refl
chained Equal Equal Equal r = refl
chained Equal Equal Greater r = refl

-- what the derived `==` makes of four tests
pub to_left : (a b c d : Bool) → (a && (b && (c && d))) ≡ (((a && b) && c) && d)
to_left false b c d = refl
to_left true false c d = refl
to_left true true false d = refl
to_left true true true d = refl

pub equal_is : (g h : Hash) → g.b < base → g.c < base → g.d < base → h.b < base → h.c < base → h.d < base
    → (eqb g.a h.a && (eqb g.b h.b && (eqb g.c h.c && eqb g.d h.d))) ≡ same g h
unfolding same key
equal_is g h b c d b' c' d' =
    let ab = wide_equal g.a h.a g.b h.b b b' in
    let abc = wide_equal (wide g.a g.b) (wide h.a h.b) g.c h.c c c' in
    let abcd = wide_equal (wide (wide g.a g.b) g.c) (wide (wide h.a h.b) h.c) g.d h.d d d' in
    to_left (eqb g.a h.a) (eqb g.b h.b) (eqb g.c h.c) (eqb g.d h.d) ∙ rw (ab, abc) abcd

pub less_is : (g h : Hash) → g.b < base → g.c < base → g.d < base → h.b < base → h.c < base → h.d < base
    → partial_lt partial_cmp-value.it g h ≡ less g h
unfolding less key
less_is g h gb gc gd hb hc hd =
    let a = nat_cmp g.a h.a in
    let b = nat_cmp g.b h.b in
    let c = nat_cmp g.c h.c in
    let d = nat_cmp g.d h.d in
    let ab = wide_then g.a h.a g.b h.b a b gb hb (ranked _ _ a refl) (ranked _ _ b refl) in
    let abc = wide_then (wide g.a g.b) (wide h.a h.b) g.c h.c (ordering_then a b) c gc hc ab (ranked _ _ c refl) in
    let abcd = wide_then (wide (wide g.a g.b) g.c) (wide (wide h.a h.b) h.c) g.d h.d (ordering_then (ordering_then a b) c) d gd hd abc (ranked _ _ d refl) in
    chained a b c d ∙ is_lt_ltb (key g) (key h) (ordering_then (ordering_then (ordering_then a b) c) d) abcd

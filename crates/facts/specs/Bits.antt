-- OR, AND and differences that wrap, as flags: what is 0, and what has no top bit. Assumes nothing.
use Rattle.std.specs.Prelude.{◌≡◌, refl, Bool, true, ◌&&◌, ◌||◌, ℕ, ◌+◌, ◌-◌, ◌*◌, ◌≤◌, ◌<◌, ◌^◌, ◌%◌, eqb, ltb, leb}
use Rattle.std.proofs.Common.{ap, ◌∙◌, inl, inr, arith, ltb-true, ltb-false, leb-true, eqb-true, lt-ltb, le-ltb, le-leb, eq-eqb, ne_eqb}
use Rattle.std.proofs.Math.Bool.{or-true, or-false}
use Rattle.std.specs.Int.Bits.{bit_or, bit_and, or_add_and, and_self}
use Rattle.std.proofs.lemmas.Nat.{and_le_l, and_le_r, or_lt, and_block}
use Rattle.std.proofs.lemmas.Bool.{eqb-false}
use Rattle.facts.specs.Words.{earlier, start_by}
use Rattle.laws.specs.Numbers.{both, and_left, and_right, and_both}
use Rattle.facts.specs.Flags.{same}

pub or_ge_l : (a b : ℕ) → a ≤ bit_or a b
or_ge_l a b = omega (arith, or_add_and a b, and_le_r a b)

pub or_ge_r : (a b : ℕ) → b ≤ bit_or a b
or_ge_r a b = omega (arith, or_add_and a b, and_le_l a b)

-- an OR is 0 when both are
pub or_zero : (a b : ℕ) → eqb (bit_or a b) 0 ≡ (eqb a 0 && eqb b 0)
or_zero a b =
    same (eqb (bit_or a b) 0) (eqb a 0 && eqb b 0)
    (λ h. let z = eqb-true (bit_or a b) 0 h in
    and_both (eqb a 0) (eqb b 0) (eq-eqb a 0 (omega (arith, or_ge_l a b, z))) (eq-eqb b 0 (omega (arith, or_ge_r a b, z))))
    (λ h. let x = eqb-true a 0 (and_left (eqb a 0) (eqb b 0) h) in let y = eqb-true b 0 (and_right (eqb a 0) (eqb b 0) h) in
    eq-eqb (bit_or a b) 0 (omega (arith, or_add_and a b, x, y)))

-- eight of them
pub or_zero8 : (a b c d e f g h : ℕ) → eqb (bit_or (bit_or (bit_or (bit_or (bit_or (bit_or (bit_or a b) c) d) e) f) g) h) 0
    ≡ (eqb a 0 && eqb b 0 && eqb c 0 && eqb d 0 && eqb e 0 && eqb f 0 && eqb g 0 && eqb h 0)
or_zero8 a b c d e f g h =
    let x3 = bit_or (bit_or a b) c in
    let x4 = bit_or x3 d in
    let x5 = bit_or x4 e in
    let x6 = bit_or x5 f in
    let x7 = bit_or x6 g in
    let o3 : eqb x3 0 ≡ (eqb a 0 && eqb b 0 && eqb c 0) = or_zero (bit_or a b) c ∙ ap (λ (q : Bool). q && eqb c 0) (or_zero a b) in
    let o4 : eqb x4 0 ≡ (eqb a 0 && eqb b 0 && eqb c 0 && eqb d 0) = or_zero x3 d ∙ ap (λ (q : Bool). q && eqb d 0) o3 in
    let o5 : eqb x5 0 ≡ (eqb a 0 && eqb b 0 && eqb c 0 && eqb d 0 && eqb e 0) = or_zero x4 e ∙ ap (λ (q : Bool). q && eqb e 0) o4 in
    let o6 : eqb x6 0 ≡ (eqb a 0 && eqb b 0 && eqb c 0 && eqb d 0 && eqb e 0 && eqb f 0) = or_zero x5 f ∙ ap (λ (q : Bool). q && eqb f 0) o5 in
    or_zero x7 h ∙ ap (λ (q : Bool). q && eqb h 0) (or_zero x6 g ∙ ap (λ (q : Bool). q && eqb g 0) o6)

-- an OR has no top bit when both have none
pub or_top : (a b : ℕ) → ltb (bit_or a b) (2 ^ 63) ≡ (ltb a (2 ^ 63) && ltb b (2 ^ 63))
or_top a b =
    same (ltb (bit_or a b) (2 ^ 63)) (ltb a (2 ^ 63) && ltb b (2 ^ 63))
    (λ h. let z = ltb-true (bit_or a b) (2 ^ 63) h in
    and_both (ltb a (2 ^ 63)) (ltb b (2 ^ 63)) (lt-ltb a (2 ^ 63) (omega (arith, or_ge_l a b, z))) (lt-ltb b (2 ^ 63) (omega (arith, or_ge_r a b, z))))
    (λ h. lt-ltb (bit_or a b) (2 ^ 63)
    (or_lt 63 a b (ltb-true a (2 ^ 63) (and_left (ltb a (2 ^ 63)) (ltb b (2 ^ 63)) h)) (ltb-true b (2 ^ 63) (and_right (ltb a (2 ^ 63)) (ltb b (2 ^ 63)) h))))

pub or_top5 : (a b c d e : ℕ) → ltb (bit_or (bit_or (bit_or (bit_or a b) c) d) e) (2 ^ 63)
    ≡ (ltb a (2 ^ 63) && ltb b (2 ^ 63) && ltb c (2 ^ 63) && ltb d (2 ^ 63) && ltb e (2 ^ 63))
or_top5 a b c d e =
    or_top (bit_or (bit_or (bit_or a b) c) d) e
    ∙ ap (λ (q : Bool). q && ltb e (2 ^ 63)) (or_top (bit_or (bit_or a b) c) d
    ∙ ap (λ (q : Bool). q && ltb d (2 ^ 63)) (or_top (bit_or a b) c ∙ ap (λ (q : Bool). q && ltb c (2 ^ 63)) (or_top a b)))

-- an AND has none when one of them has none
and_top_both : (a b : ℕ) → 2 ^ 63 ≤ a → a < 2 ^ 64 → 2 ^ 63 ≤ b → b < 2 ^ 64 → 2 ^ 63 ≤ bit_and a b
and_top_both a b la ha lb hb =
    let r = a - 2 ^ 63 in
    let s = b - 2 ^ 63 in
    let ea : a ≡ 1 * 2 ^ 63 + r = omega arith in
    let eb : b ≡ 1 * 2 ^ 63 + s = omega arith in
    let e : bit_and a b ≡ bit_and 1 1 * 2 ^ 63 + bit_and r s = (λ i. bit_and (ea i) (eb i)) ∙ and_block 63 1 1 r s (omega arith) (omega arith) in
    omega (arith, e, and_self 1)

pub and_top : (a b : ℕ) → a < 2 ^ 64 → b < 2 ^ 64 → ltb (bit_and a b) (2 ^ 63) ≡ (ltb a (2 ^ 63) || ltb b (2 ^ 63))
and_top a b ha hb = elim (both (ltb a (2 ^ 63))) [
  | inl p ↦ rw p (lt-ltb (bit_and a b) (2 ^ 63) (omega (arith, and_le_l a b, ltb-true a (2 ^ 63) p)))
  | inr p ↦ elim (both (ltb b (2 ^ 63))) [
    | inl q ↦ rw (p, q) (lt-ltb (bit_and a b) (2 ^ 63) (omega (arith, and_le_r a b, ltb-true b (2 ^ 63) q)))
    | inr q ↦ rw (p, q) (le-ltb (bit_and a b) (2 ^ 63) (and_top_both a b (ltb-false a (2 ^ 63) p) ha (ltb-false b (2 ^ 63) q) hb))
  ]
]

-- r is max - x, wrapped
pub over_law : (max x r : ℕ) → max < 2 ^ 63 → x < 2 ^ 64 → r < 2 ^ 64 → (r + x) % 2 ^ 64 ≡ max → ltb (bit_or x r) (2 ^ 63) ≡ leb x max
over_law max x r hm hx hr e =
    or_top x r
    ∙ same (ltb x (2 ^ 63) && ltb r (2 ^ 63)) (leb x max)
    (λ h. le-leb x max
    (omega (arith, ltb-true x (2 ^ 63) (and_left (ltb x (2 ^ 63)) (ltb r (2 ^ 63)) h), ltb-true r (2 ^ 63) (and_right (ltb x (2 ^ 63)) (ltb r (2 ^ 63)) h))))
    (λ h. and_both (ltb x (2 ^ 63)) (ltb r (2 ^ 63)) (lt-ltb x (2 ^ 63) (omega (arith, leb-true x max h))) (lt-ltb r (2 ^ 63) (omega (arith, leb-true x max h))))

-- x is a - g, y is 0 - a, z is g - 1, each wrapped
pub start_law : (latest g a o x y z : ℕ) → latest < 2 ^ 63 → g < 2 ^ 63 → x < 2 ^ 64 → y < 2 ^ 64 → z < 2 ^ 64
    → ltb o (2 ^ 63) ≡ leb a latest → (x + g) % 2 ^ 64 ≡ a → (y + a) % 2 ^ 64 ≡ 0 → (z + 1) % 2 ^ 64 ≡ g
    → ltb (bit_or (bit_or o x) (bit_and y z)) (2 ^ 63) ≡ start_by latest g a
unfolding start_by
start_law latest g a o x y z hl hg hx hy hz eo ex ey ez =
    or_top (bit_or o x) (bit_and y z)
    ∙ rw (or_top o x, eo, and_top y z hy hz) (elim (both (leb a latest)) [
      | inr p ↦ rw p
      | inl p ↦ let le = leb-true a latest p in elim (both (eqb g 0)) [
        | inl q ↦ let g0 = eqb-true g 0 q in
            rw (p, q, lt-ltb x (2 ^ 63) (omega arith), le-ltb z (2 ^ 63) (omega arith), or-false)
            (same (ltb y (2 ^ 63)) (eqb a 0) (λ h. eq-eqb a 0 (omega (arith, ltb-true y (2 ^ 63) h))) (λ h. lt-ltb y (2 ^ 63) (omega (arith, eqb-true a 0 h))))
        | inr q ↦ let g1 = eqb-false g 0 q in
            let pos : 0 < g = omega (arith, g1) in
            rw (p, q, lt-ltb z (2 ^ 63) (omega arith), or-true)
            (same (ltb x (2 ^ 63) && true) (leb g a)
            (λ h. le-leb g a (omega (arith, ltb-true x (2 ^ 63) (and_left (ltb x (2 ^ 63)) true h))))
            (λ h. and_both (ltb x (2 ^ 63)) true (lt-ltb x (2 ^ 63) (omega (arith, leb-true g a h))) refl))
      ]
    ])

-- d is m - 1, wrapped
pub sooner_new : (t m d : ℕ) → d < 2 ^ 64 → (d + 1) % 2 ^ 64 ≡ m → t < d → t + 1 ≡ earlier t m
unfolding earlier
sooner_new t m d hd e l = elim (both (eqb m 0)) [
  | inl q ↦ rw q
  | inr q ↦ rw (q, lt-ltb (t + 1) m (omega (arith, eqb-false m 0 q)))
]

pub sooner_old : (t m d : ℕ) → t ≤ 4611686018427387904 → d < 2 ^ 64 → (d + 1) % 2 ^ 64 ≡ m → d ≤ t → m ≡ earlier t m
unfolding earlier
sooner_old t m d ht hd e l = rw (ne_eqb m 0 (λ z. omega arith), le-ltb (t + 1) m (omega arith))

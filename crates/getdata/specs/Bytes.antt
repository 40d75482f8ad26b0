-- Lemmas for Returns: a number and its bytes, an entry, a row of entries, the count, and what a payload is accepted by. Assumes nothing.
use Rattle.std.specs.Prelude.{ℕ, zero, suc, ◌+◌, ◌*◌, ◌/◌, ◌%◌, ◌≤◌, ◌<◌, ◌≡◌, refl, ◌⊎◌, Bool, true, false, ◌&&◌, List, [], ◌∷◌, ◌++◌, eqb, leb, ltb, length, get_or, take, drop}
use Rattle.std.proofs.Common.{arith, sym, ap, ◌∙◌, subst, inl, inr, append_assoc, append-nil, length-append, length-drop, take-append-drop, length-take-le, take_at, drop_at, get_or-drop, drop-drop, take-add, ltb-true, leb-true, eqb-true, lt-ltb, le-ltb, le-leb, eq-eqb, ne_eqb, ltb-false}
use Rattle.std.proofs.Math.Seq.{append_snoc}
use Rattle.model.specs.declared.Hash.{Hash}
use Rattle.model.specs.Hash.{base, hash}
use Rattle.model.specs.Getdata.{max_getdata, msg_witness_block, little_endian, big_endian, compact_size, entry_bytes, entries_bytes, payload}
use Rattle.model.specs.Getdata.{from_little_endian, from_big_endian, in_two, count_width, count_of, shortest, entry_size, type_of, word_at, entry_hash, all_blocks, entry_hashes}
use Rattle.model.specs.Getdata.{is_getdata, getdata_hashes}
use Rattle.getdata.specs.Below.{Bytes, FourWords, Hashes}

-- ---- tests

pub both : (b : Bool) → (b ≡ true) ⊎ (b ≡ false)
both true = inl refl
both false = inr refl

and_left : (a b : Bool) → (a && b) ≡ true → a ≡ true
and_left true b e = refl
and_left false b e = e

and_right : (a b : Bool) → (a && b) ≡ true → b ≡ true
and_right true b e = e
and_right false b e = let z : ◌≡◌ {A = ℕ} 0 1 = cc in absurd (omega arith)

and_both : (a b : Bool) → a ≡ true → b ≡ true → (a && b) ≡ true
and_both a b p q = rw (p, q)

-- ---- parts of bytes are bytes

bytes_take : (n : ℕ) (l : List ℕ) → Bytes l → (i : ℕ) → get_or (take n l) i 0 < 256
bytes_take zero l g i = omega arith
bytes_take (suc n) [] g i = omega arith
bytes_take (suc n) (b ∷ l) g zero = g 0
bytes_take (suc n) (b ∷ l) g (suc i) = bytes_take n l (λ j. g (suc j)) i

pub bytes_drop : (n : ℕ) (l : List ℕ) → Bytes l → Bytes (drop n l)
bytes_drop n l g = λ i. subst (λ (x : ℕ). x < 256) (sym (get_or-drop n l i 0)) (g (n + i))

-- ---- a number and its bytes, the low one first

pub length_little_endian : (n x : ℕ) → length (little_endian n x) ≡ n
unfolding little_endian
length_little_endian zero x = refl
length_little_endian (suc n) x = ap suc (length_little_endian n (x / 256))

-- read and written
little_again : (l : List ℕ) → Bytes l → little_endian (length l) (from_little_endian l) ≡ l
unfolding little_endian from_little_endian
little_again [] g = refl
little_again (b ∷ l) g =
    let y : ℕ = from_little_endian l in
    let low : (b + y * 256) % 256 ≡ b = omega (arith, g 0) in
    let high : (b + y * 256) / 256 ≡ y = omega (arith, g 0) in
    let rest : little_endian (length l) ((b + y * 256) / 256) ≡ l = ap (little_endian (length l)) high ∙ little_again l (λ i. g (suc i)) in
    λ i. low i ∷ rest i

-- ---- and the high one first

from_append : (x : ℕ) (l m : List ℕ) → from_big_endian x (l ++ m) ≡ from_big_endian (from_big_endian x l) m
unfolding from_big_endian
from_append x [] m = refl
from_append x (b ∷ l) m = from_append (x * 256 + b) l m

pub length_big_endian : (n x : ℕ) → length (big_endian n x) ≡ n
unfolding big_endian
length_big_endian zero x = refl
length_big_endian (suc n) x = omega (arith, length-append (big_endian n (x / 256)) (x % 256 ∷ []), length_big_endian n (x / 256))

-- divided by 256 so many times, x is 0
abbrev Ends : ℕ → ℕ → Type 0
Ends zero x = x ≡ 0
Ends (suc n) x = Ends n (x / 256)

from_big_endian_of : (n x : ℕ) → Ends n x → from_big_endian 0 (big_endian n x) ≡ x
unfolding from_big_endian big_endian
from_big_endian_of zero x h = sym h
from_big_endian_of (suc n) x h =
    let e : x / 256 * 256 + x % 256 ≡ x = omega arith in
    from_append 0 (big_endian n (x / 256)) (x % 256 ∷ []) ∙ ap (λ (y : ℕ). y * 256 + x % 256) (from_big_endian_of n (x / 256) h) ∙ e

word_ends : (x : ℕ) → x < base → Ends 8 x
word_ends x h = omega arith

-- a word is written and read
word_returns : (x : ℕ) → x < base → from_big_endian 0 (big_endian 8 x) ≡ x
word_returns x h = from_big_endian_of 8 x (word_ends x h)

-- bytes after the number x, written in k bytes more than they are
big_endian_after : (l : List ℕ) (x k n : ℕ) → Bytes l → k + length l ≡ n → big_endian n (from_big_endian x l) ≡ big_endian k x ++ l
unfolding from_big_endian big_endian
big_endian_after [] x k n g e =
    let f : n ≡ k = omega arith in
    ap (λ (m : ℕ). big_endian m x) f ∙ sym (append-nil (big_endian k x))
big_endian_after (b ∷ l) x k n g e =
    let f : suc k + length l ≡ n = omega arith in
    let q : (x * 256 + b) / 256 ≡ x = omega (arith, g 0) in
    let r : (x * 256 + b) % 256 ≡ b = omega (arith, g 0) in
    big_endian_after l (x * 256 + b) (suc k) n (λ i. g (suc i)) f
    ∙ ap (λ (y : ℕ). big_endian k y ++ ((x * 256 + b) % 256 ∷ []) ++ l) q
    ∙ ap (λ (y : ℕ). big_endian k x ++ (y ∷ []) ++ l) r
    ∙ append_snoc (big_endian k x) b l

-- eight bytes are read and written
eight_return : (l : List ℕ) → Bytes l → length l ≡ 8 → big_endian 8 (from_big_endian 0 l) ≡ l
unfolding big_endian
eight_return l g e = big_endian_after l 0 0 8 g (omega arith)

-- m, multiplied by 256 so many times
abbrev grown : ℕ → ℕ → ℕ
grown zero m = m
grown (suc n) m = grown n (m * 256)

from_below : (l : List ℕ) (x m : ℕ) → Bytes l → x < m → from_big_endian x l < grown (length l) m
unfolding from_big_endian
from_below [] x m g h = h
from_below (b ∷ l) x m g h = from_below l (x * 256 + b) (m * 256) (λ i. g (suc i)) (omega (arith, g 0))

-- what they spell is a word
eight_below : (l : List ℕ) → Bytes l → length l ≡ 8 → from_big_endian 0 l < base
eight_below l g e = subst (λ (n : ℕ). from_big_endian 0 l < grown n 1) e (from_below l 0 1 g (omega arith))

-- ---- an entry, written and read

four_joined : (u v w z r : List ℕ) → u ++ (v ++ (w ++ z)) ++ r ≡ u ++ (v ++ (w ++ (z ++ r)))
four_joined u v w z r =
    append_assoc u (v ++ (w ++ z)) r
    ∙ ap (λ (m : List ℕ). u ++ m) (append_assoc v (w ++ z) r ∙ ap (λ (m : List ℕ). v ++ m) (append_assoc w z r))

entry_split : (h : Hash) (r : List ℕ) → entry_bytes h ++ r ≡ little_endian 4 msg_witness_block ++ (big_endian 8 h.a ++ (big_endian 8 h.b ++ (big_endian 8 h.c ++ (big_endian 8 h.d ++ r))))
unfolding entry_bytes little_endian
entry_split h r = ap (λ (m : List ℕ). little_endian 4 msg_witness_block ++ m) (four_joined (big_endian 8 h.a) (big_endian 8 h.b) (big_endian 8 h.c) (big_endian 8 h.d) r)

pub length_entry : (h : Hash) → length (entry_bytes h) ≡ 36
unfolding entry_bytes little_endian
length_entry h =
    let u = big_endian 8 h.a in
    let v = big_endian 8 h.b in
    let w = big_endian 8 h.c in
    let z = big_endian 8 h.d in
    omega (
      arith,
      length-append u (v ++ (w ++ z)),
      length-append v (w ++ z),
      length-append w z,
      length_big_endian 8 h.a,
      length_big_endian 8 h.b,
      length_big_endian 8 h.c,
      length_big_endian 8 h.d,
    )

drop_entry : (h : Hash) (r : List ℕ) → drop entry_size (entry_bytes h ++ r) ≡ r
drop_entry h r = drop_at (entry_bytes h) r 36 (length_entry h)

type_written : (h : Hash) (r : List ℕ) → type_of (entry_bytes h ++ r) ≡ msg_witness_block
unfolding type_of entry_bytes little_endian from_little_endian
type_written h r = refl

-- the words of an entry stand in four rows of eight bytes
entry_at : (u v w z r : List ℕ) → length u ≡ 8 → length v ≡ 8 → length w ≡ 8 → length z ≡ 8
    → entry_hash (little_endian 4 msg_witness_block ++ (u ++ (v ++ (w ++ (z ++ r))))) ≡ hash (from_big_endian 0 u) (from_big_endian 0 v) (from_big_endian 0 w) (from_big_endian 0 z)
unfolding entry_hash word_at little_endian
entry_at u v w z r eu ev ew ez =
    let l : List ℕ = u ++ (v ++ (w ++ (z ++ r))) in
    let d₁ : drop 8 l ≡ v ++ (w ++ (z ++ r)) = drop_at u (v ++ (w ++ (z ++ r))) 8 eu in
    let d₂ : drop 16 l ≡ w ++ (z ++ r) = sym (drop-drop 8 8 l) ∙ ap (λ (m : List ℕ). drop 8 m) d₁ ∙ drop_at v (w ++ (z ++ r)) 8 ev in
    let d₃ : drop 24 l ≡ z ++ r = sym (drop-drop 8 16 l) ∙ ap (λ (m : List ℕ). drop 8 m) d₂ ∙ drop_at w (z ++ r) 8 ew in
    let a : take 8 l ≡ u = take_at u (v ++ (w ++ (z ++ r))) 8 eu in
    let b : take 8 (drop 8 l) ≡ v = ap (λ (m : List ℕ). take 8 m) d₁ ∙ take_at v (w ++ (z ++ r)) 8 ev in
    let c : take 8 (drop 16 l) ≡ w = ap (λ (m : List ℕ). take 8 m) d₂ ∙ take_at w (z ++ r) 8 ew in
    let d : take 8 (drop 24 l) ≡ z = ap (λ (m : List ℕ). take 8 m) d₃ ∙ take_at z r 8 ez in
    λ i. hash (from_big_endian 0 (a i)) (from_big_endian 0 (b i)) (from_big_endian 0 (c i)) (from_big_endian 0 (d i))

entry_returns : (h : Hash) (r : List ℕ) → FourWords h → entry_hash (entry_bytes h ++ r) ≡ h
entry_returns h r f =
    ap entry_hash (entry_split h r)
    ∙ entry_at (big_endian 8 h.a) (big_endian 8 h.b) (big_endian 8 h.c) (big_endian 8 h.d) r
    (length_big_endian 8 h.a) (length_big_endian 8 h.b) (length_big_endian 8 h.c) (length_big_endian 8 h.d)
    ∙ (λ i. hash (word_returns h.a f.0 i) (word_returns h.b f.1 i) (word_returns h.c f.2 i) (word_returns h.d f.3 i))

-- ---- and read and written

-- the bytes of this type are these and no others
type_bytes : (es : List ℕ) → Bytes es → 36 ≤ length es → type_of es ≡ msg_witness_block → take 4 es ≡ little_endian 4 msg_witness_block
unfolding type_of
type_bytes es g h e =
    let l : List ℕ = take 4 es in
    let four : length l ≡ 4 = length-take-le 4 es (omega arith) in
    sym (little_again l (bytes_take 4 es g)) ∙ (λ i. little_endian (four i) (e i))

-- a row of eight bytes, and the rest
cut_eight : (k n : ℕ) (es : List ℕ) → take (8 + n) (drop k es) ≡ take 8 (drop k es) ++ take n (drop (k + 8) es)
cut_eight k n es = take-add 8 n (drop k es) ∙ ap (λ (m : List ℕ). take 8 (drop k es) ++ take n m) (drop-drop 8 k es)

entry_cut : (es : List ℕ) → take 36 es ≡ take 4 es ++ (take 8 (drop 4 es) ++ (take 8 (drop 12 es) ++ (take 8 (drop 20 es) ++ take 8 (drop 28 es))))
entry_cut es =
    let c₁ = cut_eight 20 8 es in
    let c₂ = cut_eight 12 16 es ∙ ap (λ (m : List ℕ). take 8 (drop 12 es) ++ m) c₁ in
    let c₃ = cut_eight 4 24 es ∙ ap (λ (m : List ℕ). take 8 (drop 4 es) ++ m) c₂ in
    take-add 4 32 es ∙ ap (λ (m : List ℕ). take 4 es ++ m) c₃

row_long : (es : List ℕ) (k : ℕ) → k + 8 ≤ length es → length (take 8 (drop k es)) ≡ 8
row_long es k h = length-take-le 8 (drop k es) (omega (arith, length-drop k es))

row_bytes : (es : List ℕ) (k : ℕ) → Bytes es → Bytes (take 8 (drop k es))
row_bytes es k g = bytes_take 8 (drop k es) (bytes_drop k es g)

word_again : (es : List ℕ) (k : ℕ) → Bytes es → k + 8 ≤ length es → big_endian 8 (word_at es k) ≡ take 8 (drop k es)
unfolding word_at
word_again es k g h = eight_return (take 8 (drop k es)) (row_bytes es k g) (row_long es k h)

word_below : (es : List ℕ) (k : ℕ) → Bytes es → k + 8 ≤ length es → word_at es k < base
unfolding word_at
word_below es k g h = eight_below (take 8 (drop k es)) (row_bytes es k g) (row_long es k h)

entry_again : (es : List ℕ) → Bytes es → 36 ≤ length es → type_of es ≡ msg_witness_block → entry_bytes (entry_hash es) ≡ take 36 es
unfolding entry_bytes entry_hash
entry_again es g h e =
    let t = type_bytes es g h e in
    let a = word_again es 4 g (omega arith) in
    let b = word_again es 12 g (omega arith) in
    let c = word_again es 20 g (omega arith) in
    let d = word_again es 28 g (omega arith) in
    (λ i. sym t i ++ (a i ++ (b i ++ (c i ++ d i)))) ∙ sym (entry_cut es)

entry_below : (es : List ℕ) → Bytes es → 36 ≤ length es → FourWords (entry_hash es)
unfolding entry_hash
entry_below es g h = (word_below es 4 g (omega arith), word_below es 12 g (omega arith), word_below es 20 g (omega arith), word_below es 28 g (omega arith))

-- ---- a row of entries

pub length_entries : (hs : List Hash) → length (entries_bytes hs) ≡ length hs * 36
unfolding entries_bytes
length_entries [] = refl
length_entries (h ∷ hs) = omega (arith, length-append (entry_bytes h) (entries_bytes hs), length_entry h, length_entries hs)

pub blocks_written : (hs : List Hash) → all_blocks (length hs) (entries_bytes hs) ≡ true
unfolding all_blocks entries_bytes
blocks_written [] = refl
blocks_written (h ∷ hs) =
    let r : List ℕ = entries_bytes hs in
    let t : eqb (type_of (entry_bytes h ++ r)) msg_witness_block ≡ true = eq-eqb (type_of (entry_bytes h ++ r)) msg_witness_block (type_written h r) in
    let m : all_blocks (length hs) (drop entry_size (entry_bytes h ++ r)) ≡ true = ap (λ (l : List ℕ). all_blocks (length hs) l) (drop_entry h r) ∙ blocks_written hs in
    and_both (eqb (type_of (entry_bytes h ++ r)) msg_witness_block) (all_blocks (length hs) (drop entry_size (entry_bytes h ++ r))) t m

pub hashes_return : (hs : List Hash) → Hashes hs → entry_hashes (length hs) (entries_bytes hs) ≡ hs
unfolding entry_hashes entries_bytes
hashes_return [] f = refl
hashes_return (h ∷ hs) f =
    let r : List ℕ = entries_bytes hs in
    let m : entry_hashes (length hs) (drop entry_size (entry_bytes h ++ r)) ≡ hs =
    ap (λ (l : List ℕ). entry_hashes (length hs) l) (drop_entry h r) ∙ hashes_return hs f.1 in
    λ i. entry_returns h r f.0 i ∷ m i

pub length_entry_hashes : (n : ℕ) (es : List ℕ) → length (entry_hashes n es) ≡ n
unfolding entry_hashes
length_entry_hashes zero es = refl
length_entry_hashes (suc n) es = ap suc (length_entry_hashes n (drop entry_size es))

-- without the first entry
rest_long : (n : ℕ) (es : List ℕ) → length es ≡ suc n * 36 → length (drop 36 es) ≡ n * 36
rest_long n es e = omega (arith, length-drop 36 es)

pub entries_again : (n : ℕ) (es : List ℕ) → Bytes es → length es ≡ n * 36 → all_blocks n es ≡ true → entries_bytes (entry_hashes n es) ≡ es
unfolding entries_bytes entry_hashes all_blocks
entries_again zero [] g e q = refl
entries_again zero (b ∷ es) g e q = absurd (omega arith)
entries_again (suc n) es g e q =
    let t = and_left (eqb (type_of es) msg_witness_block) (all_blocks n (drop 36 es)) q in
    let m = and_right (eqb (type_of es) msg_witness_block) (all_blocks n (drop 36 es)) q in
    let a = entry_again es g (omega arith) (eqb-true (type_of es) msg_witness_block t) in
    let b = entries_again n (drop 36 es) (bytes_drop 36 es g) (rest_long n es e) m in
    (λ i. a i ++ b i) ∙ take-append-drop 36 es

pub hashes_below : (n : ℕ) (es : List ℕ) → Bytes es → length es ≡ n * 36 → Hashes (entry_hashes n es)
unfolding entry_hashes
hashes_below zero es g e = tt
hashes_below (suc n) es g e = (entry_below es g (omega arith), hashes_below n (drop 36 es) (bytes_drop 36 es g) (rest_long n es e))

-- ---- the count

-- p is read as the count n and the bytes r
pub record Counted (p : List ℕ) (n : ℕ) (r : List ℕ) : Type 0 where
  pub form : shortest p ≡ true
  pub count : count_of p ≡ n
  pub rest : drop (count_width p) p ≡ r
  pub long : length p ≡ count_width p + length r

in_one : (n : ℕ) (r : List ℕ) → n < 253 → Counted (n ∷ r) n r
unfolding in_two count_width count_of shortest
in_one n r h =
    let e : eqb n 253 ≡ false = ne_eqb n 253 (omega arith) in
    record {
      form = rw e (lt-ltb n 253 h);
      count = rw e;
      rest = rw e;
      long = rw e (omega arith);
    }

in_three : (n : ℕ) (r : List ℕ) → 253 ≤ n → n ≤ max_getdata → Counted (253 ∷ little_endian 2 n ++ r) n r
unfolding in_two count_width count_of shortest little_endian from_little_endian
in_three n r h few = record {
  form = le-leb 253 (n % 256 + (n / 256 % 256 + 0 * 256) * 256) (omega arith);
  count = omega arith;
  rest = refl;
  long = omega arith;
}

pub size_one : (n : ℕ) → n < 253 → compact_size n ≡ n ∷ []
unfolding compact_size
size_one n h = rw (lt-ltb n 253 h)

pub size_three : (n : ℕ) → 253 ≤ n → compact_size n ≡ 253 ∷ little_endian 2 n
unfolding compact_size
size_three n h = rw (le-ltb n 253 h)

-- one byte or three
pub length_count : (n : ℕ) → (1 ≤ length (compact_size n)) × (length (compact_size n) ≤ 3)
length_count n = elim (both (ltb n 253)) [
  | inl q ↦ let e = ap length (size_one n (ltb-true n 253 q)) in (omega (arith, e), omega (arith, e))
  | inr q ↦ let e = ap length (size_three n (ltb-false n 253 q)) in (omega (arith, e), omega (arith, e, length_little_endian 2 n))
]

pub count_returns : (n : ℕ) (r : List ℕ) → n ≤ max_getdata → Counted (compact_size n ++ r) n r
count_returns n r few = elim (both (ltb n 253)) [
  | inl q ↦ subst (λ (l : List ℕ). Counted (l ++ r) n r) (sym (size_one n (ltb-true n 253 q))) (in_one n r (ltb-true n 253 q))
  | inr q ↦ subst (λ (l : List ℕ). Counted (l ++ r) n r) (sym (size_three n (ltb-false n 253 q))) (in_three n r (ltb-false n 253 q) few)
]

-- the other way: what is read as the count and the rest is written as the same bytes
abbrev Again : List ℕ → Type 0
Again p = shortest p ≡ true → count_width p ≤ length p → compact_size (count_of p) ++ drop (count_width p) p ≡ p

again_one : (b : ℕ) (l : List ℕ) → eqb b 253 ≡ false → Again (b ∷ l)
unfolding in_two count_width count_of shortest
again_one b l e = λ s h.
    let k : ltb b 253 ≡ true = rw e at s in
    rw e (ap (λ (m : List ℕ). m ++ l) (size_one b (ltb-true b 253 k)))

again_three : (l : List ℕ) → Bytes l → Again (253 ∷ l)
unfolding in_two count_width count_of shortest
again_three [] g = λ s h. absurd (omega arith)
again_three (c ∷ []) g = λ s h. absurd (omega arith)
again_three (c ∷ d ∷ l) g = λ s h.
    let n : ℕ = from_little_endian (c ∷ d ∷ []) in
    let two : little_endian 2 n ≡ c ∷ d ∷ [] = little_again (c ∷ d ∷ []) (bytes_take 2 (c ∷ d ∷ l) g) in
    ap (λ (m : List ℕ). m ++ l) (size_three n (leb-true 253 n s)) ∙ (λ i. 253 ∷ two i ++ l)

again_first : (b : ℕ) (l : List ℕ) → Bytes (b ∷ l) → Again (b ∷ l)
again_first b l g = elim (both (eqb b 253)) [
  | inl q ↦ subst (λ (x : ℕ). Again (x ∷ l)) (sym (eqb-true b 253 q)) (again_three l (λ i. g (suc i)))
  | inr q ↦ again_one b l q
]

pub count_again : (p : List ℕ) → Bytes p → Again p
unfolding in_two count_width
count_again [] g = λ s h. absurd (omega arith)
count_again (b ∷ l) g = again_first b l g

-- ---- what a payload is accepted by

pub record Accepted (p : List ℕ) : Type 0 where
  pub form : shortest p ≡ true
  pub few : count_of p ≤ max_getdata
  pub long : length p ≡ count_width p + count_of p * entry_size
  pub blocks : all_blocks (count_of p) (drop (count_width p) p) ≡ true

pub accepted_by : (p : List ℕ) → Accepted p → is_getdata p ≡ true
unfolding is_getdata
accepted_by p k = rw (k.form, le-leb (count_of p) max_getdata k.few, eq-eqb (length p) (count_width p + count_of p * entry_size) k.long, k.blocks)

pub accepted_parts : (p : List ℕ) → is_getdata p ≡ true → Accepted p
unfolding is_getdata
accepted_parts p e =
    let b₁ : Bool = shortest p in
    let b₂ : Bool = leb (count_of p) max_getdata in
    let b₃ : Bool = eqb (length p) (count_width p + count_of p * entry_size) in
    let b₄ : Bool = all_blocks (count_of p) (drop (count_width p) p) in
    let e₂ : (b₂ && (b₃ && b₄)) ≡ true = and_right b₁ (b₂ && (b₃ && b₄)) e in
    let e₃ : (b₃ && b₄) ≡ true = and_right b₂ (b₃ && b₄) e₂ in
    record {
      form = and_left b₁ (b₂ && (b₃ && b₄)) e;
      few = leb-true (count_of p) max_getdata (and_left b₂ (b₃ && b₄) e₂);
      long = eqb-true (length p) (count_width p + count_of p * entry_size) (and_left b₃ b₄ e₃);
      blocks = and_right b₃ b₄ e₃;
    }

-- what follows the count is as long as its entries
pub entries_long : (p : List ℕ) → Accepted p → length (drop (count_width p) p) ≡ count_of p * 36
entries_long p k = omega (arith, length-drop (count_width p) p, k.long)

-- a written payload, read
pub payload_counted : (hs : List Hash) → length hs ≤ max_getdata → Counted (payload hs) (length hs) (entries_bytes hs)
unfolding payload
payload_counted hs h = count_returns (length hs) (entries_bytes hs) h

pub payload_accepted : (hs : List Hash) → length hs ≤ max_getdata → Accepted (payload hs)
payload_accepted hs h =
    let q = payload_counted hs h in
    record {
      form = q.form;
      few = subst (λ (n : ℕ). n ≤ max_getdata) (sym q.count) h;
      long = omega (arith, q.long, q.count, length_entries hs);
      blocks = (λ i. all_blocks (q.count i) (q.rest i)) ∙ blocks_written hs;
    }

-- an accepted payload's hashes are at most 256, each of four words
pub hashes_few : (p : List ℕ) → Accepted p → length (getdata_hashes p) ≤ max_getdata
unfolding getdata_hashes
hashes_few p k = subst (λ (n : ℕ). n ≤ max_getdata) (sym (length_entry_hashes (count_of p) (drop (count_width p) p))) k.few

pub hashes_are : (p : List ℕ) → Bytes p → Accepted p → Hashes (getdata_hashes p)
unfolding getdata_hashes
hashes_are p g k = hashes_below (count_of p) (drop (count_width p) p) (bytes_drop (count_width p) p g) (entries_long p k)

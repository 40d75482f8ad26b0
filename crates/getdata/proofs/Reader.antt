-- Laws for the reader of getdata's payload: what its tests and turns say of the definitions. Assumes nothing.
use mathlib.Core.Path.{◌≡◌, refl, sym, ap, ◌∙◌}
use mathlib.Core.Bool.{Bool, true, false, cond, ◌&&◌}
use mathlib.Core.List.{List, [], ◌∷◌, ◌++◌, append_assoc, append-nil}
use Prim.Native.Nat.{ℕ, suc, ◌+◌, ◌*◌, ◌-◌, ◌≤◌, ◌<◌}
use native.Mathlib.Omega.{arith}
use Rattle.std.specs.Int.{w64, from_be_bytes}
use lib.Dec.{eqb, leb, ltb}
use lib.ListN.{length, get_or, take, drop, set, length-drop}
use lib.Seq.{take_all, drop-drop}
use borrow.Author.Tests.{eq-eqb, ne_eqb, lt-ltb, le-leb, lt-leb}
use Rattle.model.specs.Hash.{hash_words, hashes_words}
use Rattle.model.specs.Perform.{refused, says}
use Rattle.model.specs.Getdata.{from_little_endian, from_big_endian, in_two, count_width, count_of, shortest, type_of, msg_witness_block, word_at, entry_hash, all_blocks, entry_hashes}
use Rattle.model.specs.Getdata.{is_getdata, getdata_hashes, answered, put_in, read_refusal, read_answer, read_left}
use Rattle.getdata.specs.Bytes.{length_entry_hashes}
use Rattle.getdata.specs.Answers.{length_words, reads}
use Rattle.getdata.proofs.Both.{put, put_front, all_of_four}

-- what a test of the code, on a callee's answer, says of what the answer is
pub told_true : {b x : Bool} → b ≡ x → b ≡ true → x ≡ true
told_true e h = sym e ∙ h

pub told_false : {b x : Bool} → b ≡ x → b ≡ false → x ≡ false
told_false e h = sym e ∙ h

-- ---- the count, by the first byte

two_bytes : (p : List ℕ) → from_little_endian (take 2 (drop 1 p)) ≡ get_or p 1 0 + get_or p 2 0 * 256
unfolding from_little_endian
two_bytes [] = refl
two_bytes (a ∷ []) = refl
two_bytes (a ∷ b ∷ []) = refl
two_bytes (a ∷ b ∷ c ∷ l) = omega arith

module _ (p : List ℕ) (b : ℕ) (e : b ≡ get_or p 0 0) where
  two : b ≡ 253 → in_two p ≡ true
  unfolding in_two
  two h = eq-eqb (get_or p 0 0) 253 (sym e ∙ h)

  one : (b ≡ 253 → ⊥) → in_two p ≡ false
  unfolding in_two
  one h = ne_eqb (get_or p 0 0) 253 (λ (f : get_or p 0 0 ≡ 253). h (e ∙ f))

  pub width_two : b ≡ 253 → 3 ≡ count_width p
  unfolding count_width
  width_two h = sym (ap (λ (t : Bool). cond t 3 1) (two h))

  pub width_one : (b ≡ 253 → ⊥) → 1 ≡ count_width p
  unfolding count_width
  width_one h = sym (ap (λ (t : Bool). cond t 3 1) (one h))

  pub count_two : (low high : ℕ) → b ≡ 253 → low ≡ get_or p 1 0 → high ≡ get_or p 2 0 → low + high * 256 ≡ count_of p
  unfolding count_of
  count_two low high h f g =
      (λ k. f k + g k * 256) ∙ sym (two_bytes p) ∙ sym (ap (λ (t : Bool). cond t (from_little_endian (take 2 (drop 1 p))) (get_or p 0 0)) (two h))

  pub count_one : (b ≡ 253 → ⊥) → b ≡ count_of p
  unfolding count_of
  count_one h = e ∙ sym (ap (λ (t : Bool). cond t (from_little_endian (take 2 (drop 1 p))) (get_or p 0 0)) (one h))

  pub shortest_two : (n : ℕ) → b ≡ 253 → n ≡ count_of p → leb 253 n ≡ shortest p
  unfolding shortest
  shortest_two n h f = ap (leb 253) f ∙ sym (ap (λ (t : Bool). cond t (leb 253 (count_of p)) (ltb (get_or p 0 0) 253)) (two h))

  pub shortest_one : (b ≡ 253 → ⊥) → ltb b 253 ≡ shortest p
  unfolding shortest
  shortest_one h = ap (λ (x : ℕ). ltb x 253) e ∙ sym (ap (λ (t : Bool). cond t (leb 253 (count_of p)) (ltb (get_or p 0 0) 253)) (one h))

-- ---- parts

-- `&s[a..]`
pub rest_of : (a : ℕ) (s : List ℕ) → take (length s - a) (drop a s) ≡ drop a s
rest_of a s = take_all (length s - a) (drop a s) (rw length-drop (omega arith))

-- the entry after that at i
next_entry : (i : ℕ) (es : List ℕ) → drop 36 (drop (36 * i) es) ≡ drop (36 * (i + 1)) es
next_entry i es =
    let e : 36 * i + 36 ≡ 36 * (i + 1) = omega arith in
    drop-drop 36 (36 * i) es ∙ ap (λ (k : ℕ). drop k es) e

-- ---- the types: i entries are looked at

four_bytes : (e : List ℕ) → from_little_endian (take 4 e) ≡ get_or e 0 0 + (get_or e 1 0 + (get_or e 2 0 + get_or e 3 0 * 256) * 256) * 256
unfolding from_little_endian
four_bytes [] = refl
four_bytes (a ∷ []) = refl
four_bytes (a ∷ b ∷ []) = refl
four_bytes (a ∷ b ∷ c ∷ []) = refl
four_bytes (a ∷ b ∷ c ∷ d ∷ l) = omega arith

pub type_is : (e : List ℕ) (a b c d : ℕ) → a ≡ get_or e 0 0 → b ≡ get_or e 1 0 → c ≡ get_or e 2 0 → d ≡ get_or e 3 0
    → eqb (a + (b + (c + d * 256) * 256) * 256) 1073741826 ≡ eqb (type_of e) msg_witness_block
unfolding type_of
type_is e a b c d f g h j =
    (λ k. eqb (f k + (g k + (h k + j k * 256) * 256) * 256) 1073741826) ∙ ap (λ (t : ℕ). eqb t msg_witness_block) (sym (four_bytes e))

module _ (es : List ℕ) (i n : ℕ) where
  -- those from the i-th on
  abbrev blocks_left : Bool
  blocks_left = all_blocks (n - i) (drop (36 * i) es)

  blocks_one : i < n → blocks_left ≡ (eqb (type_of (drop (36 * i) es)) msg_witness_block && all_blocks (n - (i + 1)) (drop (36 * (i + 1)) es))
  unfolding all_blocks
  blocks_one h =
      let m : n - i ≡ suc (n - (i + 1)) = omega arith in
      ap (λ (k : ℕ). all_blocks k (drop (36 * i) es)) m
      ∙ ap (λ (r : List ℕ). eqb (type_of (drop (36 * i) es)) msg_witness_block && all_blocks (n - (i + 1)) r) (next_entry i es)

  module _ (b : Bool) (entry : List ℕ) (f : entry ≡ drop (36 * i) es) (e : b ≡ eqb (type_of entry) msg_witness_block) where
    seen : b ≡ eqb (type_of (drop (36 * i) es)) msg_witness_block
    seen = e ∙ ap (λ (r : List ℕ). eqb (type_of r) msg_witness_block) f

    pub blocks_on : i < n → b ≡ true → blocks_left ≡ all_blocks (n - (i + 1)) (drop (36 * (i + 1)) es)
    blocks_on h t = blocks_one h ∙ ap (λ (x : Bool). x && all_blocks (n - (i + 1)) (drop (36 * (i + 1)) es)) (sym seen ∙ t)

    pub blocks_off : i < n → b ≡ false → blocks_left ≡ false
    blocks_off h t = blocks_one h ∙ ap (λ (x : Bool). x && all_blocks (n - (i + 1)) (drop (36 * (i + 1)) es)) (sym seen ∙ t)

pub blocks_start : (es : List ℕ) (n : ℕ) → all_blocks n es ≡ all_blocks (n - 0) es
blocks_start es n =
    let e : n ≡ n - 0 = omega arith in
    ap (λ (k : ℕ). all_blocks k es) e

pub blocks_end : (es : List ℕ) (i n : ℕ) → n ≤ i → all_blocks (n - i) (drop (36 * i) es) ≡ true
unfolding all_blocks
blocks_end es i n h =
    let e : n - i ≡ 0 = omega arith in
    ap (λ (k : ℕ). all_blocks k (drop (36 * i) es)) e

-- ---- the payload

and_false : (b : Bool) → (b && false) ≡ false
and_false true = refl
and_false false = refl

module _ (p : List ℕ) where
  pub not_shortest : shortest p ≡ false → false ≡ is_getdata p
  unfolding is_getdata
  not_shortest e = rw e refl

  module _ (n : ℕ) (s : shortest p ≡ true) (c : n ≡ count_of p) where
    pub above_256 : 256 < n → false ≡ is_getdata p
    unfolding is_getdata
    above_256 h = rw (s, lt-leb (count_of p) 256 (omega (arith, c, h))) refl

    module _ (w : ℕ) (d : w ≡ count_width p) where
      pub not_long : (length p ≡ w + n * 36 → ⊥) → false ≡ is_getdata p
      unfolding is_getdata
      not_long h =
          let no : eqb (length p) (count_width p + count_of p * 36) ≡ false = ne_eqb _ _ (λ (e : length p ≡ count_width p + count_of p * 36). h (omega (arith, c, d, e))) in
          rw (s, no) (sym (and_false (leb (count_of p) 256)))

      pub long : (b : Bool) (es : List ℕ) → n ≤ 256 → length p ≡ w + n * 36 → es ≡ drop w p → b ≡ all_blocks n es → b ≡ is_getdata p
      unfolding is_getdata
      long b es few h f e =
          rw (s, le-leb (count_of p) 256 (omega (arith, c, few)), eq-eqb (length p) (count_width p + count_of p * 36) (omega (arith, c, d, h)))
          (e ∙ (λ k. all_blocks (c k) (f k)) ∙ ap (λ (x : ℕ). all_blocks (count_of p) (drop x p)) d)

-- ---- a word: what the library reads from eight bytes

pub word_is : (bs : List ℕ) → length bs ≡ 8 → from_be_bytes w64 bs ≡ from_big_endian 0 bs
unfolding from_big_endian
word_is [] e = absurd (omega arith)
word_is (a ∷ []) e = absurd (omega arith)
word_is (a ∷ b ∷ []) e = absurd (omega arith)
word_is (a ∷ b ∷ c ∷ []) e = absurd (omega arith)
word_is (a ∷ b ∷ c ∷ d ∷ []) e = absurd (omega arith)
word_is (a ∷ b ∷ c ∷ d ∷ f ∷ []) e = absurd (omega arith)
word_is (a ∷ b ∷ c ∷ d ∷ f ∷ g ∷ []) e = absurd (omega arith)
word_is (a ∷ b ∷ c ∷ d ∷ f ∷ g ∷ h ∷ []) e = absurd (omega arith)
word_is (a ∷ b ∷ c ∷ d ∷ f ∷ g ∷ h ∷ k ∷ []) e = omega arith
word_is (a ∷ b ∷ c ∷ d ∷ f ∷ g ∷ h ∷ k ∷ m ∷ l) e = absurd (omega arith)

-- ---- the words of a hash

pub hash_is : (e l : List ℕ) (a b c d : ℕ) → length l ≡ 4 → a ≡ from_big_endian 0 (take 8 (drop 4 e)) → b ≡ from_big_endian 0 (take 8 (drop 12 e))
    → c ≡ from_big_endian 0 (take 8 (drop 20 e)) → d ≡ from_big_endian 0 (take 8 (drop 28 e)) → set (set (set (set l 0 a) 1 b) 2 c) 3 d ≡ hash_words (entry_hash e)
unfolding entry_hash word_at
hash_is e l a b c d h i j k m = all_of_four l a b c d h ∙ (λ t. i t ∷ j t ∷ k t ∷ m t ∷ [])

-- ---- the entries: i hashes are read, into the first words

-- the words that are left to read
abbrev words_left : List ℕ → ℕ → ℕ → List ℕ
words_left es i n = hashes_words (entry_hashes (n - i) (drop (36 * i) es))

words_one : (es : List ℕ) (i n : ℕ) → i < n → words_left es i n ≡ hash_words (entry_hash (drop (36 * i) es)) ++ words_left es (i + 1) n
unfolding entry_hashes hashes_words
words_one es i n h =
    let m : n - i ≡ suc (n - (i + 1)) = omega arith in
    ap (λ (k : ℕ). hashes_words (entry_hashes k (drop (36 * i) es))) m
    ∙ ap (λ (r : List ℕ). hash_words (entry_hash (drop (36 * i) es)) ++ hashes_words (entry_hashes (n - (i + 1)) r)) (next_entry i es)

pub words_on : (es hs y entry : List ℕ) (i n m : ℕ) → i < n → m ≡ 4 → 4 * i + 4 ≤ length hs → entry ≡ drop (36 * i) es → y ≡ hash_words (entry_hash entry)
    → take (4 * i) hs ++ words_left es i n ≡ take (4 * (i + 1)) (put (4 * i) m hs y) ++ words_left es (i + 1) n
words_on es hs y entry i n m h g long f e =
    let w : List ℕ = hash_words (entry_hash (drop (36 * i) es)) in
    let is : y ≡ w = e ∙ ap (λ (r : List ℕ). hash_words (entry_hash r)) f in
    let n4 : length y ≡ m = ap length is ∙ sym g in
    let end : 4 * i + m ≡ 4 * (i + 1) = omega (arith, g) in
    let front : take (4 * (i + 1)) (put (4 * i) m hs y) ≡ take (4 * i) hs ++ y =
    ap (λ (k : ℕ). take k (put (4 * i) m hs y)) (sym end) ∙ put_front (4 * i) m hs y (omega (arith, g, long)) n4 in
    ap (λ (r : List ℕ). take (4 * i) hs ++ r) (words_one es i n h)
    ∙ sym (append_assoc (take (4 * i) hs) w (words_left es (i + 1) n))
    ∙ ap (λ (r : List ℕ). (take (4 * i) hs ++ r) ++ words_left es (i + 1) n) (sym is)
    ∙ ap (λ (r : List ℕ). r ++ words_left es (i + 1) n) (sym front)

pub words_start : (es : List ℕ) (n : ℕ) → hashes_words (entry_hashes n es) ≡ hashes_words (entry_hashes (n - 0) es)
words_start es n =
    let e : n ≡ n - 0 = omega arith in
    ap (λ (k : ℕ). hashes_words (entry_hashes k es)) e

pub words_end : (es hs : List ℕ) (i n : ℕ) → n ≤ i → length hs ≤ 4 * i → take (4 * i) hs ++ words_left es i n ≡ hs
unfolding entry_hashes hashes_words
words_end es hs i n h k =
    let e : n - i ≡ 0 = omega arith in
    ap (λ (m : ℕ). take (4 * i) hs ++ hashes_words (entry_hashes m (drop (36 * i) es))) e ∙ append-nil (take (4 * i) hs) ∙ take_all (4 * i) hs k

-- ---- the answer

module _ (p lent : List ℕ) where
  module _ (e : is_getdata p ≡ false) where
    r_11 : read_refusal p lent ≡ 11
    unfolding read_refusal
    r_11 = rw e refl

    pub answer_11 : refused 11 ≡ read_answer p lent
    unfolding read_answer
    answer_11 = sym (ap (λ (r : ℕ). answered r (length (getdata_hashes p))) r_11)

    pub left_11 : lent ≡ read_left p lent
    unfolding read_left
    left_11 = sym (ap (λ (r : ℕ). put_in r (hashes_words (getdata_hashes p)) lent) r_11)

  module _ (n : ℕ) (e : is_getdata p ≡ true) (c : n ≡ count_of p) where
    hashes_many : length (getdata_hashes p) ≡ n
    unfolding getdata_hashes
    hashes_many = length_entry_hashes (count_of p) (drop (count_width p) p) ∙ sym c

    words_many : length (hashes_words (getdata_hashes p)) ≡ n * 4
    words_many = length_words (getdata_hashes p) ∙ ap (λ (k : ℕ). k * 4) hashes_many

    r_10 : length lent < n * 4 → read_refusal p lent ≡ 10
    unfolding read_refusal
    r_10 h = rw (e, lt-ltb (length lent) (length (hashes_words (getdata_hashes p))) (omega (arith, h, words_many))) refl

    pub answer_10 : length lent < n * 4 → refused 10 ≡ read_answer p lent
    unfolding read_answer
    answer_10 h = sym (ap (λ (r : ℕ). answered r (length (getdata_hashes p))) (r_10 h))

    pub left_10 : length lent < n * 4 → lent ≡ read_left p lent
    unfolding read_left
    left_10 h = sym (ap (λ (r : ℕ). put_in r (hashes_words (getdata_hashes p)) lent) (r_10 h))

    module _ (room : n * 4 ≤ length lent) where
      all : (read_answer p lent ≡ says 0 (length (getdata_hashes p) ∷ []))
          × (read_left p lent ≡ hashes_words (getdata_hashes p) ++ drop (length (hashes_words (getdata_hashes p))) lent)
      all = reads p (getdata_hashes p) lent e refl (omega (arith, hashes_many, room))

      pub answer_0 : says 0 (n ∷ []) ≡ read_answer p lent
      answer_0 = sym (all.0 ∙ ap (λ (k : ℕ). says 0 (k ∷ [])) hashes_many)

      pub left_0 : (w m : ℕ) (es new : List ℕ) → w ≡ count_width p → es ≡ drop w p → m ≡ n * 4 → new ≡ hashes_words (entry_hashes n es)
          → new ++ drop m lent ≡ read_left p lent
      unfolding getdata_hashes
      left_0 w m es new d f g is =
          let here : es ≡ drop (count_width p) p = f ∙ ap (λ (k : ℕ). drop k p) d in
          let whole : new ≡ hashes_words (entry_hashes (count_of p) (drop (count_width p) p)) = is ∙ (λ k. hashes_words (entry_hashes (c k) (here k))) in
          let end : m ≡ length (hashes_words (getdata_hashes p)) = g ∙ sym words_many in
          (λ k. whole k ++ drop (end k) lent) ∙ sym all.1

-- The laws that the writer's proofs cite: parts of the lent bytes written one after the other, the bytes of a number, the entries of a list of words.
-- Assumes nothing.
use mathlib.Core.Path.{◌≡◌, refl, sym, ap, ◌∙◌}
use mathlib.Core.List.{List, [], ◌∷◌, ◌++◌, append_assoc, append-nil}
use Prim.Native.Nat.{ℕ, suc, ◌+◌, ◌-◌, ◌*◌, ◌/◌, ◌%◌, ◌≤◌, ◌<◌}
use Rattle.std.specs.Int.{w64, to_be_bytes}
use native.Mathlib.Omega.{arith}
use lib.ListN.{length, take, drop, get_or, set, length-append, length-drop, drop_of_length-le}
use lib.Seq.{take_all, take_at, drop_at, drop-drop, drop-cons, take-suc-set}
use borrow.Author.Tests.{lt-ltb, le-ltb}
use Rattle.model.specs.declared.Hash.{Hash}
use Rattle.model.specs.Hash.{hash, hashes_in}
use Rattle.model.specs.Perform.{refused, says}
use Rattle.getdata.specs.Bytes.{length_entry}
use Rattle.getdata.specs.Answers.{writes}
use Rattle.getdata.specs.Returns.{payload_length}
use Rattle.getdata.proofs.Both.{put, put_long, put_front}
use Rattle.model.specs.Getdata.{little_endian, big_endian, compact_size, entry_bytes, entries_bytes, payload, write_refusal, write_answer, write_left}

-- ---- parts written one after the other

-- where w has a bytes p and then what stood there, one part more follows p
pub put_next : (a m : ℕ) (p l w y : List ℕ) → length p ≡ a → w ≡ p ++ drop a l → put a m w y ≡ (p ++ y) ++ drop (a + m) l
put_next a m p l w y h e =
    ap (λ (v : List ℕ). put a m v y) e
    ∙ (λ i. take_at p (drop a l) a h i ++ (y ++ drop m (drop_at p (drop a l) a h i)))
    ∙ ap (λ (r : List ℕ). p ++ (y ++ r)) (drop-drop m a l)
    ∙ sym (append_assoc p y (drop (a + m) l))

-- the five parts of an entry
pub put_five : (w t a b c d : List ℕ) → length w ≡ 36 → length t ≡ 4 → length a ≡ 8 → length b ≡ 8 → length c ≡ 8
    → put 28 8 (put 20 8 (put 12 8 (put 4 8 (put 0 4 w t) a) b) c) d ≡ t ++ (a ++ (b ++ (c ++ d)))
put_five w t a b c d long ht ha hb hc =
    let one : put 0 4 w t ≡ t ++ drop 4 w = refl in
    let two = put_next 4 8 t w (put 0 4 w t) a ht one in
    let la : length (t ++ a) ≡ 12 = simp length-append (omega arith) in
    let three = put_next 12 8 (t ++ a) w (put 4 8 (put 0 4 w t) a) b la two in
    let lb : length ((t ++ a) ++ b) ≡ 20 = simp length-append (omega arith) in
    let four = put_next 20 8 ((t ++ a) ++ b) w (put 12 8 (put 4 8 (put 0 4 w t) a) b) c lb three in
    let lc : length (((t ++ a) ++ b) ++ c) ≡ 28 = simp length-append (omega arith) in
    let five = put_next 28 8 (((t ++ a) ++ b) ++ c) w (put 20 8 (put 12 8 (put 4 8 (put 0 4 w t) a) b) c) d lc four in
    five
    ∙ ap (λ (r : List ℕ). ((((t ++ a) ++ b) ++ c) ++ d) ++ r) (drop_of_length-le w {i = 36} (omega arith))
    ∙ append-nil ((((t ++ a) ++ b) ++ c) ++ d)
    ∙ append_assoc ((t ++ a) ++ b) c d
    ∙ append_assoc (t ++ a) b (c ++ d)
    ∙ append_assoc t a (b ++ (c ++ d))

-- ---- all bytes of a few

pub all_of_one : (l : List ℕ) (x : ℕ) → length l ≡ 1 → set l 0 x ≡ x ∷ []
all_of_one [] x e = absurd (omega arith)
all_of_one (a ∷ []) x e = refl
all_of_one (a ∷ b ∷ l) x e = absurd (omega arith)

-- the first of three, and a part for the others
pub first_and_rest : (l : List ℕ) (x : ℕ) (y : List ℕ) → length l ≡ 3 → put 1 2 (set l 0 x) y ≡ x ∷ y
first_and_rest [] x y e = absurd (omega arith)
first_and_rest (a ∷ []) x y e = absurd (omega arith)
first_and_rest (a ∷ b ∷ []) x y e = absurd (omega arith)
first_and_rest (a ∷ b ∷ c ∷ []) x y e = ap (λ (r : List ℕ). x ∷ r) (append-nil y)
first_and_rest (a ∷ b ∷ c ∷ d ∷ l) x y e = absurd (omega arith)

-- ---- the bytes of a number

-- what the library makes of a word
pub word_bytes : (x : ℕ) → to_be_bytes w64 x ≡ big_endian 8 x
unfolding big_endian
word_bytes x =
    let e₂ : x / 65536 ≡ x / 256 / 256 = omega arith in
    let e₃ : x / 16777216 ≡ x / 256 / 256 / 256 = omega arith in
    let e₄ : x / 4294967296 ≡ x / 256 / 256 / 256 / 256 = omega arith in
    let e₅ : x / 1099511627776 ≡ x / 256 / 256 / 256 / 256 / 256 = omega arith in
    let e₆ : x / 281474976710656 ≡ x / 256 / 256 / 256 / 256 / 256 / 256 = omega arith in
    let e₇ : x / 72057594037927936 ≡ x / 256 / 256 / 256 / 256 / 256 / 256 / 256 = omega arith in
    λ i. e₇ i % 256 ∷ e₆ i % 256 ∷ e₅ i % 256 ∷ e₄ i % 256 ∷ e₃ i % 256 ∷ e₂ i % 256 ∷ x / 256 % 256 ∷ x % 256 ∷ []

-- a number is stored from its low byte on: i bytes of n are
pub store_start : (n x : ℕ) → little_endian n x ≡ little_endian (n - 0) x
store_start n x =
    let e : n ≡ n - 0 = omega arith in
    ap (λ (k : ℕ). little_endian k x) e

pub store_next : (n i x : ℕ) (l : List ℕ) → i < n → length l ≡ n
    → take i l ++ little_endian (n - i) x ≡ take (i + 1) (set l i (x % 256)) ++ little_endian (n - (i + 1)) (x / 256)
unfolding little_endian
store_next n i x l h e =
    let m : n - i ≡ suc (n - (i + 1)) = omega arith in
    let s : suc i ≡ i + 1 = omega arith in
    let rest : List ℕ = little_endian (n - (i + 1)) (x / 256) in
    ap (λ (k : ℕ). take i l ++ little_endian k x) m
    ∙ sym (append_assoc (take i l) (x % 256 ∷ []) rest)
    ∙ ap (λ (p : List ℕ). p ++ rest) (sym (take-suc-set l i (x % 256) (omega arith)))
    ∙ ap (λ (k : ℕ). take k (set l i (x % 256)) ++ rest) s

pub store_end : (n i x : ℕ) (l : List ℕ) → n ≤ i → length l ≡ n → take i l ++ little_endian (n - i) x ≡ l
unfolding little_endian
store_end n i x l h e =
    let none : n - i ≡ 0 = omega arith in
    ap (λ (k : ℕ). take i l ++ little_endian k x) none ∙ append-nil (take i l) ∙ take_all i l (omega arith)

-- ---- the entries

-- four words are a hash
pub hash_count : (l : List ℕ) → length (hashes_in l) ≡ length l / 4
unfolding hashes_in
hash_count [] = refl
hash_count (a ∷ []) = refl
hash_count (a ∷ b ∷ []) = refl
hash_count (a ∷ b ∷ c ∷ []) = refl
hash_count (a ∷ b ∷ c ∷ d ∷ l) = omega (arith, hash_count l)

no_hash : (l : List ℕ) → length l < 4 → hashes_in l ≡ []
unfolding hashes_in
no_hash [] h = refl
no_hash (a ∷ []) h = refl
no_hash (a ∷ b ∷ []) h = refl
no_hash (a ∷ b ∷ c ∷ []) h = refl
no_hash (a ∷ b ∷ c ∷ d ∷ l) h = absurd (omega arith)

-- what is still to be written from word k on: one entry and what follows it
next_hash : (l : List ℕ) (k : ℕ) → k + 4 ≤ length l
    → entries_bytes (hashes_in (drop k l)) ≡ entry_bytes (hash (get_or l k 0) (get_or l (k + 1) 0) (get_or l (k + 2) 0) (get_or l (k + 3) 0)) ++ entries_bytes (hashes_in (drop (k + 4) l))
unfolding hashes_in entries_bytes
next_hash l k h = ap (λ (r : List ℕ). entries_bytes (hashes_in r)) words
  where
    from : (i j : ℕ) → i < length l → j ≡ suc i → drop i l ≡ get_or l i 0 ∷ drop j l
    from i j less e = drop-cons l i 0 less ∙ ap (λ (x : ℕ). get_or l i 0 ∷ drop x l) (sym e)

    words : drop k l ≡ get_or l k 0 ∷ get_or l (k + 1) 0 ∷ get_or l (k + 2) 0 ∷ get_or l (k + 3) 0 ∷ drop (k + 4) l
    words =
        from k (k + 1) (omega arith) (omega arith)
        ∙ ap (λ (r : List ℕ). get_or l k 0 ∷ r) (from (k + 1) (k + 2) (omega arith) (omega arith))
        ∙ ap (λ (r : List ℕ). get_or l k 0 ∷ get_or l (k + 1) 0 ∷ r) (from (k + 2) (k + 3) (omega arith) (omega arith))
        ∙ ap (λ (r : List ℕ). get_or l k 0 ∷ get_or l (k + 1) 0 ∷ get_or l (k + 2) 0 ∷ r) (from (k + 3) (k + 4) (omega arith) (omega arith))

-- a turn: the entry is put after those before it
pub entries_next : (l out y : List ℕ) (i m : ℕ) → m ≡ 36 → 4 * i + 4 ≤ length l → 36 * i + 36 ≤ length out
    → y ≡ entry_bytes (hash (get_or l (4 * i) 0) (get_or l (4 * i + 1) 0) (get_or l (4 * i + 2) 0) (get_or l (4 * i + 3) 0))
    → (length (put (36 * i) m out y) ≡ length out)
    × (take (36 * i) out ++ entries_bytes (hashes_in (drop (4 * i) l)) ≡ take (36 * (i + 1)) (put (36 * i) m out y) ++ entries_bytes (hashes_in (drop (4 * (i + 1)) l)))
entries_next l out y i m me hl ho is =
    let p = take (36 * i) out in
    let tail = entries_bytes (hashes_in (drop (4 * (i + 1)) l)) in
    let words : 4 * i + 4 ≡ 4 * (i + 1) = omega arith in
    let bytes : 36 * i + m ≡ 36 * (i + 1) = omega (arith, me) in
    let long : length y ≡ m = ap length is ∙ length_entry (hash (get_or l (4 * i) 0) (get_or l (4 * i + 1) 0) (get_or l (4 * i + 2) 0) (get_or l (4 * i + 3) 0)) ∙ sym me in
    let room : 36 * i + m ≤ length out = omega (arith, me, ho) in
    let written : take (36 * (i + 1)) (put (36 * i) m out y) ≡ p ++ y =
    ap (λ (k : ℕ). take k (put (36 * i) m out y)) (sym bytes) ∙ put_front (36 * i) m out y room long in (
      put_long (36 * i) m out y room long,
      ap (λ (r : List ℕ). p ++ r)
          (next_hash l (4 * i) hl
          ∙ ap (λ (b : List ℕ). b ++ entries_bytes (hashes_in (drop (4 * i + 4) l))) (sym is)
          ∙ ap (λ (k : ℕ). y ++ entries_bytes (hashes_in (drop k l))) words)
          ∙ sym (append_assoc p y tail)
          ∙ ap (λ (b : List ℕ). b ++ tail) (sym written),
    )

-- all are written
pub entries_done : (l out : List ℕ) (i : ℕ) → length l < 4 * i + 4 → length out ≤ 36 * i → take (36 * i) out ++ entries_bytes (hashes_in (drop (4 * i) l)) ≡ out
unfolding entries_bytes
entries_done l out i hl ho =
    ap (λ (hs : List Hash). take (36 * i) out ++ entries_bytes hs) (no_hash (drop (4 * i) l) (rw length-drop (omega arith)))
    ∙ append-nil (take (36 * i) out)
    ∙ take_all (36 * i) out ho

-- ---- the whole payload

pub length_payload : (hs : List Hash) (n start : ℕ) → length hs ≡ n → start ≡ length (compact_size n) → length (payload hs) ≡ start + 36 * n
length_payload hs n start e s = payload_length hs ∙ (λ i. length (compact_size (e i)) + 36 * e i) ∙ ap (λ (k : ℕ). k + 36 * n) (sym s)

pub write_too_many : (hs : List Hash) (lent : List ℕ) → 256 < length hs → (refused 8 ≡ write_answer hs lent) × (lent ≡ write_left hs lent)
unfolding write_answer write_left write_refusal
write_too_many hs lent h = rw (lt-ltb 256 (length hs) h) (refl, refl)

pub write_too_few : (hs : List Hash) (lent : List ℕ) → length hs ≤ 256 → length lent < length (payload hs) → (refused 10 ≡ write_answer hs lent) × (lent ≡ write_left hs lent)
unfolding write_answer write_left write_refusal
write_too_few hs lent h k = rw (le-ltb 256 (length hs) h, lt-ltb (length lent) (length (payload hs)) k) (refl, refl)

-- the count's bytes, and the entries' after them
pub write_whole : (hs : List Hash) (lent cs es w : List ℕ) (n start end m : ℕ) → length hs ≡ n → n ≤ 256 → start ≡ length (compact_size n) → end ≡ start + 36 * n
    → end ≤ length lent → m ≡ end - start → cs ≡ compact_size n → es ≡ entries_bytes hs → w ≡ cs ++ drop start lent
    → (says 0 (end ∷ []) ≡ write_answer hs lent) × (put start m w es ≡ write_left hs lent)
unfolding payload
write_whole hs lent cs es w n start end m many few s e fits me isC isE isW =
    let long : length (payload hs) ≡ end = length_payload hs n start many s ∙ sym e in
    let past : start + m ≡ length (payload hs) = omega (arith, me, e, long) in
    let count : cs ≡ compact_size (length hs) = isC ∙ ap compact_size (sym many) in
    let left : put start m w es ≡ payload hs ++ drop (length (payload hs)) lent =
    put_next start m cs lent w es (ap length isC ∙ sym s) isW
    ∙ (λ i. (count i ++ isE i) ++ drop (past i) lent) in
    let all = writes hs (payload hs) lent refl (omega (arith, many, few)) (omega (arith, long, fits)) in
    (ap (λ (k : ℕ). says 0 (k ∷ [])) (sym long) ∙ sym all.0, left ∙ sym all.1)

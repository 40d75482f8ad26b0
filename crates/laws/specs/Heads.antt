-- The head, group by group: what a window's words say is what the window has, and words that pass the test are the words of what they say.
-- Assumes nothing.
use Rattle.std.specs.Prelude.{◌≡◌, refl, Bool, true, false, ℕ, zero, suc, ◌+◌, ◌-◌, ◌*◌, ◌≤◌, ◌<◌, length, drop, replicate, eqb, None, Some, Option}
use Rattle.std.proofs.Math.Path.{sym, ap}
use Rattle.std.proofs.Common.{◌∙◌, length-append, length-drop, take-append-drop, take_at, drop_at, drop-drop, drop-cons, get_or-take, get_or-drop, length-take-le, eqb-true}
use mathlib.Core.List.{List, [], ◌∷◌, ◌++◌}
use native.Mathlib.Omega.{arith}
use Rattle.std.proofs.Math.ListN.{get_or, take}
use Rattle.std.proofs.lemmas.List.{length-replicate}
use Rattle.std.proofs.Math.Seq.{take-add}
use Rattle.model.specs.Lists.{pad, all}
use Rattle.model.specs.Hash.{hash, hash_words, hashes_in, hashes_words}
use Rattle.model.specs.Layout.{Table, word, words_at, hash_at, is_0, source_word, source_of, flag_word, stall_words, stall_of, stuck_words, stuck_of, cold_words, cold_of, observation_words, observation_of, probe_words, probe_of}
use Rattle.model.specs.declared.Hash.{Hash}
use Rattle.model.specs.declared.StallEpisode.{StallEpisode}
use Rattle.model.specs.declared.StuckFrontier.{StuckFrontier}
use Rattle.model.specs.declared.ColdFront.{ColdFront}
use Rattle.model.specs.declared.ColdFront.TheVariants.{Idle, Waiting, Racing}
use Rattle.model.specs.declared.PrefixProbe.{PrefixProbe}
use Rattle.model.specs.declared.Observation.{Observation}
use Rattle.model.specs.declared.Observation.TheVariants.{Unarmed, Armed, Swept}
use Rattle.laws.specs.Every.{all_first, all_rest}

-- ---- parts of a list

-- the first n of what comes at a, and what is after them
pub seg : (a b n : ℕ) (l p r : List ℕ) → a + n ≡ b → length p ≡ n → drop a l ≡ p ++ r → (take n (drop a l) ≡ p) × (drop b l ≡ r)
seg a b n l p r e k q = (ap (take n) q ∙ take_at p r n k, ap (λ (i : ℕ). drop i l) (sym e) ∙ sym (drop-drop n a l) ∙ ap (drop n) q ∙ drop_at p r n k)

-- the n elements from k on, written out, and then r
abbrev pub front : ℕ → ℕ → List ℕ → List ℕ → List ℕ
front k zero l r = r
front k (suc n) l r = get_or l k 0 ∷ front (suc k) n l r

pub front_is : (k n : ℕ) (l : List ℕ) → k + n ≤ length l → front k n l (drop (k + n) l) ≡ drop k l
front_is k zero l h = let e : k + 0 ≡ k = omega arith in ap (λ (i : ℕ). drop i l) e
front_is k (suc n) l h =
    let e : k + suc n ≡ suc k + n = omega arith in
    rw e (rw (front_is (suc k) n l (omega arith)) (sym (drop-cons l k 0 (omega arith))))

-- the n elements from k on, written out
abbrev pub listed : ℕ → ℕ → List ℕ → List ℕ
listed k n l = front k n l []

pub listed_is : (k n : ℕ) (l : List ℕ) → k + n ≤ length l → take n (drop k l) ≡ listed k n l
listed_is k zero l h = refl
listed_is k (suc n) l h = rw (drop-cons l k 0 (omega arith)) (ap (λ (r : List ℕ). get_or l k 0 ∷ r) (listed_is (suc k) n l (omega arith)))

-- what comes at k, in parts
pub cut : (k n m : ℕ) (l : List ℕ) → k + n ≡ m → drop k l ≡ take n (drop k l) ++ drop m l
cut k n m l e = sym (take-append-drop n (drop k l)) ∙ ap (λ (r : List ℕ). take n (drop k l) ++ r) (drop-drop n k l ∙ ap (λ (i : ℕ). drop i l) e)

-- ---- zeros

zeros_are : (l : List ℕ) → all is_0 l ≡ true → l ≡ replicate (length l) 0
zeros_are [] e = refl
zeros_are (x ∷ l) e = λ i. eqb-true x 0 (all_first is_0 x l e) i ∷ zeros_are l (all_rest is_0 x l e) i

-- n numbers that are all 0
pub nought : (l : List ℕ) (n : ℕ) → length l ≡ n → all is_0 l ≡ true → replicate n 0 ≡ l
nought l n k z = ap (λ (m : ℕ). replicate m 0) (sym k) ∙ sym (zeros_are l z)

pub all_zeros : (n : ℕ) → all is_0 (replicate n 0) ≡ true
unfolding all
all_zeros zero = refl
all_zeros (suc n) = all_zeros n

-- ---- hashes in words

pub length_hashes : (hs : List Hash) → length (hashes_words hs) ≡ 4 * length hs
unfolding hashes_words
length_hashes [] = refl
length_hashes (h ∷ hs) = omega (arith, length_hashes hs)

pub hashes_back : (hs : List Hash) (l : List ℕ) → hashes_in (hashes_words hs ++ l) ≡ hs ++ hashes_in l
unfolding hashes_in hashes_words
hashes_back [] l = refl
hashes_back (h ∷ hs) l = ap (λ (r : List Hash). h ∷ r) (hashes_back hs l)

-- some hashes and 0 after them say these hashes
pub hashes_said : (m : ℕ) (hs : List Hash) → take (length hs) (hashes_in (pad m 0 (hashes_words hs))) ≡ hs
unfolding pad
hashes_said m hs = ap (take (length hs)) (hashes_back hs (replicate (m - length (hashes_words hs)) 0)) ∙ take_at hs _ (length hs) refl

pub length_padded : (m : ℕ) (hs : List Hash) → 4 * length hs ≤ m → length (pad m 0 (hashes_words hs)) ≡ m
unfolding pad
length_padded m hs h =
    length-append (hashes_words hs) (replicate (m - length (hashes_words hs)) 0) ∙ omega (arith, length-replicate {A = ℕ} (m - length (hashes_words hs)) 0, length_hashes hs)

-- the words of the first n hashes
hashes_first : (n : ℕ) (l : List ℕ) → 4 * n ≤ length l → (hashes_words (take n (hashes_in l)) ≡ take (4 * n) l) × (length (take n (hashes_in l)) ≡ n)
unfolding hashes_words hashes_in
hashes_first zero l h = (refl, refl)
hashes_first (suc n) [] h = absurd (omega arith)
hashes_first (suc n) (a ∷ []) h = absurd (omega arith)
hashes_first (suc n) (a ∷ b ∷ []) h = absurd (omega arith)
hashes_first (suc n) (a ∷ b ∷ c ∷ []) h = absurd (omega arith)
hashes_first (suc n) (a ∷ b ∷ c ∷ d ∷ l) h =
    let r = hashes_first n l (omega arith) in
    let e : 4 * suc n ≡ suc (suc (suc (suc (4 * n)))) = omega arith in
    (rw e (ap (λ (x : List ℕ). a ∷ b ∷ c ∷ d ∷ x) r.0), ap suc r.1)

pub count_said : (m n : ℕ) (l : List ℕ) → length l ≡ m → 4 * n ≤ m → length (take n (hashes_in l)) ≡ n
count_said m n l k h = (hashes_first n l (omega arith)).1

pub padded_back : (m n : ℕ) (l : List ℕ) → length l ≡ m → 4 * n ≤ m → all is_0 (drop (4 * n) l) ≡ true → pad m 0 (hashes_words (take n (hashes_in l))) ≡ l
unfolding pad
padded_back m n l k h z =
    let p = (hashes_first n l (omega arith)).0 in
    let rest : length (drop (4 * n) l) ≡ m - 4 * n = length-drop (4 * n) l ∙ omega arith in
    rw (p, length-take-le (4 * n) l (omega arith))
    (ap (λ (r : List ℕ). take (4 * n) l ++ r) (nought (drop (4 * n) l) (m - 4 * n) rest z) ∙ take-append-drop (4 * n) l)

-- 0 after the hashes
pub padded_zero : (m : ℕ) (hs : List Hash) → all is_0 (drop (4 * length hs) (pad m 0 (hashes_words hs))) ≡ true
unfolding pad
padded_zero m hs =
    let r = replicate {A = ℕ} (m - length (hashes_words hs)) 0 in
    ap (all is_0) (drop_at (hashes_words hs) r (4 * length hs) (length_hashes hs)) ∙ all_zeros (m - length (hashes_words hs))

-- ---- words of a table

module _ (t : Table) where
  -- a word of a group whose words are known
  pub word_is : (k n : ℕ) (l : List ℕ) → words_at k n t ≡ l → (i : ℕ) → i < n → word (k + i) t ≡ get_or l i 0
  unfolding word words_at
  word_is k n l e i h = sym (get_or-drop k t.head i 0) ∙ sym (get_or-take n (drop k t.head) i 0 h) ∙ ap (λ (x : List ℕ). get_or x i 0) e

  pub words_join : (k m n : ℕ) → words_at k (m + n) t ≡ words_at k m t ++ words_at (k + m) n t
  unfolding words_at
  words_join k m n = take-add m n (drop k t.head) ∙ ap (λ (l : List ℕ). take m (drop k t.head) ++ take n l) (drop-drop m k t.head)

  pub hash_is : (k n : ℕ) (l : List ℕ) → words_at k n t ≡ l → (i : ℕ) (j : ℕ) → k + i ≡ j → i + 3 < n → hash_at j t ≡ hash (get_or l i 0) (get_or l (i + 1) 0) (get_or l (i + 2) 0) (get_or l (i + 3) 0)
  unfolding hash_at
  hash_is k n l e i j q h =
      let at : (d : ℕ) → d ≤ 3 → word (j + d) t ≡ get_or l (i + d) 0 = λ d b. ap (λ (x : ℕ). word x t) (omega (arith, q)) ∙ word_is k n l e (i + d) (omega arith) in
      let z : j ≡ j + 0 = omega arith in
      let y : i + 0 ≡ i = omega arith in
      let first : word j t ≡ get_or l i 0 = ap (λ (x : ℕ). word x t) z ∙ at 0 (omega arith) ∙ ap (λ (x : ℕ). get_or l x 0) y in
      λ x. hash (first x) (at 1 (omega arith) x) (at 2 (omega arith) x) (at 3 (omega arith) x)

-- ---- a seat that may be missing, a flag

pub source_back : (s : Option ℕ) → source_of (source_word s) ≡ s
source_back None = refl
source_back (Some s) = refl

pub source_said : (n : ℕ) → source_word (source_of n) ≡ n
source_said zero = refl
source_said (suc n) = refl

pub flag_back : (b : Bool) → eqb (flag_word b) 1 ≡ b
flag_back true = refl
flag_back false = refl

pub flag_said : (n : ℕ) → n ≤ 1 → flag_word (eqb n 1) ≡ n
flag_said zero h = refl
flag_said (suc zero) h = refl
flag_said (suc (suc n)) h = absurd (omega arith)

-- ---- what the words of a group say

module _ (t : Table) where
  pub stall_back : (s : Option StallEpisode) → words_at 27 6 t ≡ stall_words s → stall_of (word 27 t) (word 28 t) (hash_at 29 t) ≡ s
  stall_back None e = rw (word_is t 27 6 (replicate 6 0) e 0 (omega arith))
  stall_back (Some s) e =
      let at = word_is t 27 6 (suc s.since ∷ s.owner ∷ hash_words s.front) e in
      λ i. stall_of (at 0 (omega arith) i) (at 1 (omega arith) i) (hash_is t 27 6 (suc s.since ∷ s.owner ∷ hash_words s.front) e 2 29 refl (omega arith) i)

  pub stuck_back : (s : Option StuckFrontier) → words_at 33 6 t ≡ stuck_words s → stuck_of (word 33 t) (word 34 t) (hash_at 35 t) ≡ s
  stuck_back None e = rw (word_is t 33 6 (replicate 6 0) e 0 (omega arith))
  stuck_back (Some s) e =
      let at = word_is t 33 6 (suc s.since ∷ s.height ∷ hash_words s.front) e in
      λ i. stuck_of (at 0 (omega arith) i) (at 1 (omega arith) i) (hash_is t 33 6 (suc s.since ∷ s.height ∷ hash_words s.front) e 2 35 refl (omega arith) i)

  pub cold_back : (s : ColdFront) → words_at 39 7 t ≡ cold_words s → cold_of (word 39 t) (word 40 t) (word 41 t) (hash_at 42 t) ≡ s
  cold_back Idle e = rw (word_is t 39 7 (replicate 7 0) e 0 (omega arith))
  cold_back (Waiting owner h since) e =
      let at = word_is t 39 7 (1 ∷ owner ∷ suc since ∷ hash_words h) e in
      (λ i. cold_of (at 0 (omega arith) i) (at 1 (omega arith) i) (at 2 (omega arith) i) (hash_is t 39 7 (1 ∷ owner ∷ suc since ∷ hash_words h) e 3 42 refl (omega arith) i))
      ∙ ap (Waiting owner h) (omega arith)
  cold_back (Racing owner alternate h) e =
      let at = word_is t 39 7 (2 ∷ owner ∷ alternate ∷ hash_words h) e in
      λ i. cold_of (at 0 (omega arith) i) (at 1 (omega arith) i) (at 2 (omega arith) i) (hash_is t 39 7 (2 ∷ owner ∷ alternate ∷ hash_words h) e 3 42 refl (omega arith) i)

  pub observation_back : (s : Observation) → words_at 55 6 t ≡ observation_words s → observation_of (word 55 t) (word 56 t) (hash_at 57 t) ≡ s
  observation_back Unarmed e = rw (word_is t 55 6 (replicate 6 0) e 0 (omega arith))
  observation_back (Armed owner h) e =
      let at = word_is t 55 6 (1 ∷ owner ∷ hash_words h) e in
      λ i. observation_of (at 0 (omega arith) i) (at 1 (omega arith) i) (hash_is t 55 6 (1 ∷ owner ∷ hash_words h) e 2 57 refl (omega arith) i)
  observation_back (Swept owner h) e =
      let at = word_is t 55 6 (2 ∷ owner ∷ hash_words h) e in
      λ i. observation_of (at 0 (omega arith) i) (at 1 (omega arith) i) (hash_is t 55 6 (2 ∷ owner ∷ hash_words h) e 2 57 refl (omega arith) i)

  pub probe_back : (p : Option PrefixProbe) (n : ℕ) → words_at 61 4 t ≡ probe_words p n → probe_of (word 61 t) (word 62 t) (word 64 t) ≡ p
  probe_back None n e = rw (word_is t 61 4 (0 ∷ 0 ∷ n ∷ 0 ∷ []) e 0 (omega arith))
  probe_back (Some p) n e =
      let at = word_is t 61 4 (suc p.started ∷ p.owner ∷ n ∷ p.accepted ∷ []) e in
      λ i. probe_of (at 0 (omega arith) i) (at 1 (omega arith) i) (at 3 (omega arith) i)

-- ---- the words of what a group says

pub stall_said : (a b c d e f : ℕ) → (a ≡ 0 → all is_0 (a ∷ b ∷ c ∷ d ∷ e ∷ f ∷ []) ≡ true) → stall_words (stall_of a b (hash c d e f)) ≡ a ∷ b ∷ c ∷ d ∷ e ∷ f ∷ []
stall_said zero b c d e f z = nought _ 6 refl (z refl)
stall_said (suc a) b c d e f z = refl

pub stuck_said : (a b c d e f : ℕ) → (a ≡ 0 → all is_0 (a ∷ b ∷ c ∷ d ∷ e ∷ f ∷ []) ≡ true) → stuck_words (stuck_of a b (hash c d e f)) ≡ a ∷ b ∷ c ∷ d ∷ e ∷ f ∷ []
stuck_said zero b c d e f z = nought _ 6 refl (z refl)
stuck_said (suc a) b c d e f z = refl

pub cold_said : (a b x c d e f : ℕ) → (a ≡ 0 → all is_0 (a ∷ b ∷ x ∷ c ∷ d ∷ e ∷ f ∷ []) ≡ true) → (a ≡ 1 → 0 < x) → a ≤ 2
    → cold_words (cold_of a b x (hash c d e f)) ≡ a ∷ b ∷ x ∷ c ∷ d ∷ e ∷ f ∷ []
cold_said zero b x c d e f z p h = nought _ 7 refl (z refl)
cold_said (suc zero) b x c d e f z p h = let q : suc (x - 1) ≡ x = omega (arith, p refl) in λ i. 1 ∷ b ∷ q i ∷ c ∷ d ∷ e ∷ f ∷ []
cold_said (suc (suc zero)) b x c d e f z p h = refl
cold_said (suc (suc (suc a))) b x c d e f z p h = absurd (omega arith)

pub observation_said : (a b c d e f : ℕ) → (a ≡ 0 → all is_0 (a ∷ b ∷ c ∷ d ∷ e ∷ f ∷ []) ≡ true) → a ≤ 2 → observation_words (observation_of a b (hash c d e f)) ≡ a ∷ b ∷ c ∷ d ∷ e ∷ f ∷ []
observation_said zero b c d e f z h = nought _ 6 refl (z refl)
observation_said (suc zero) b c d e f z h = refl
observation_said (suc (suc zero)) b c d e f z h = refl
observation_said (suc (suc (suc a))) b c d e f z h = absurd (omega arith)

pub probe_said : (a b n d : ℕ) → (a ≡ 0 → (b ≡ 0) × (d ≡ 0)) → probe_words (probe_of a b d) n ≡ a ∷ b ∷ n ∷ d ∷ []
probe_said zero b n d z = let p = z refl in λ i. 0 ∷ sym p.0 i ∷ n ∷ sym p.1 i ∷ []
probe_said (suc a) b n d z = refl

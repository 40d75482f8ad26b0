-- Lemmas for Returns: what the two calls' answers say, and the words of hashes. Assumes nothing.
use Rattle.std.specs.Prelude.{ℕ, zero, suc, ◌*◌, ◌≤◌, ◌≡◌, refl, Bool, true, false, cond, List, [], ◌∷◌, ◌++◌, ltb, length, take, drop}
use Rattle.std.proofs.Common.{arith, sym, ap, ◌∙◌, subst, take_at, le-ltb, ltb-false}
use Rattle.model.specs.declared.Hash.{Hash}
use Rattle.model.specs.Hash.{hashes_in, hashes_words}
use Rattle.model.specs.Perform.{says}
use Rattle.model.specs.Getdata.{max_getdata, payload, is_getdata, getdata_hashes, answered, put_in, write_refusal, write_answer, write_left, read_refusal, read_answer, read_left}
use Rattle.getdata.specs.Below.{Words, Hashes}

-- ---- the words of hashes

pub length_words : (hs : List Hash) → length (hashes_words hs) ≡ length hs * 4
unfolding hashes_words
length_words [] = refl
length_words (h ∷ hs) = omega (arith, length_words hs)

pub words_return : (hs : List Hash) → hashes_in (hashes_words hs) ≡ hs
unfolding hashes_in hashes_words
words_return [] = refl
words_return (h ∷ hs) = ap (λ (l : List Hash). h ∷ l) (words_return hs)

pub hashes_of : (ws : List ℕ) → Words ws → Hashes (hashes_in ws)
unfolding hashes_in
hashes_of [] g = tt
hashes_of (a ∷ []) g = tt
hashes_of (a ∷ b ∷ []) g = tt
hashes_of (a ∷ b ∷ c ∷ []) g = tt
hashes_of (a ∷ b ∷ c ∷ d ∷ l) g = ((g 0, g 1, g 2, g 3), hashes_of l (λ i. g (suc (suc (suc (suc i))))))

-- ---- answers

-- an answer that is a number is no refusal
pub answered_says : (r m n : ℕ) → answered r m ≡ says 0 (n ∷ []) → (r ≡ 0) × (m ≡ n)
answered_says zero m n e = (refl, cc)
answered_says (suc r) m n e = let z : ◌≡◌ {A = ℕ} 0 1 = cc in absurd (omega arith)

-- of two tests for a refusal neither says so
neither : (a b : Bool) (m n : ℕ) → cond a (suc m) (cond b (suc n) 0) ≡ 0 → (a ≡ false) × (b ≡ false)
neither true b m n e = absurd (omega arith)
neither false true m n e = absurd (omega arith)
neither false false m n e = (refl, refl)

pub write_fits : (hs : List Hash) (lent : List ℕ) → write_refusal hs lent ≡ 0 → (length hs ≤ max_getdata) × (length (payload hs) ≤ length lent)
unfolding write_refusal
write_fits hs lent e =
    let t = neither (ltb max_getdata (length hs)) (ltb (length lent) (length (payload hs))) 7 9 e in
    (ltb-false max_getdata (length hs) t.0, ltb-false (length lent) (length (payload hs)) t.1)

pub fits_write : (hs : List Hash) (lent : List ℕ) → length hs ≤ max_getdata → length (payload hs) ≤ length lent → write_refusal hs lent ≡ 0
unfolding write_refusal
fits_write hs lent h k = rw (le-ltb max_getdata (length hs) h, le-ltb (length lent) (length (payload hs)) k)

either_not : (a b : Bool) (m n : ℕ) → cond a (cond b (suc m) 0) (suc n) ≡ 0 → (a ≡ true) × (b ≡ false)
either_not false b m n e = absurd (omega arith)
either_not true true m n e = absurd (omega arith)
either_not true false m n e = (refl, refl)

pub read_fits : (p list : List ℕ) → read_refusal p list ≡ 0 → (is_getdata p ≡ true) × (length (hashes_words (getdata_hashes p)) ≤ length list)
unfolding read_refusal
read_fits p list e =
    let t = either_not (is_getdata p) (ltb (length list) (length (hashes_words (getdata_hashes p)))) 9 10 e in
    (t.0, ltb-false (length list) (length (hashes_words (getdata_hashes p))) t.1)

pub fits_read : (p list : List ℕ) → is_getdata p ≡ true → length (hashes_words (getdata_hashes p)) ≤ length list → read_refusal p list ≡ 0
unfolding read_refusal
fits_read p list h k = rw (h, le-ltb (length list) (length (hashes_words (getdata_hashes p))) k)

-- ---- what is answered and left where nothing is refused

-- hashes whose payload is p are written
pub writes : (hs : List Hash) (p lent : List ℕ) → payload hs ≡ p → length hs ≤ max_getdata → length p ≤ length lent
    → (write_answer hs lent ≡ says 0 (length p ∷ [])) × (write_left hs lent ≡ p ++ drop (length p) lent)
unfolding write_answer write_left
writes hs p lent e few room =
    let r = fits_write hs lent few (subst (λ (q : List ℕ). length q ≤ length lent) (sym e) room) in
    (λ i. answered (r i) (length (e i)), λ i. put_in (r i) (e i) lent)

-- a payload that names hs is read
pub reads : (p : List ℕ) (hs : List Hash) (list : List ℕ) → is_getdata p ≡ true → getdata_hashes p ≡ hs → length hs * 4 ≤ length list
    → (read_answer p list ≡ says 0 (length hs ∷ [])) × (read_left p list ≡ hashes_words hs ++ drop (length (hashes_words hs)) list)
unfolding read_answer read_left
reads p hs list t e room =
    let k : length (hashes_words hs) ≤ length list = omega (arith, length_words hs) in
    let r = fits_read p list t (subst (λ (gs : List Hash). length (hashes_words gs) ≤ length list) (sym e) k) in
    (λ i. answered (r i) (length (e i)), λ i. put_in (r i) (hashes_words (e i)) list)

-- ---- what an answer that is a number tells of what was given

-- the n bytes that were written are the payload
pub write_told : (hs : List Hash) (lent : List ℕ) (n : ℕ) → write_answer hs lent ≡ says 0 (n ∷ [])
    → (length hs ≤ max_getdata) × (take n (write_left hs lent) ≡ payload hs)
unfolding write_answer
write_told hs lent n e =
    let t = answered_says (write_refusal hs lent) (length (payload hs)) n e in
    let k = write_fits hs lent t.0 in
    let put = (writes hs (payload hs) lent (λ i. payload hs) k.0 k.1).1 in
    (k.0, ap (λ (l : List ℕ). take n l) put ∙ take_at (payload hs) (drop (length (payload hs)) lent) n t.1)

-- the words of the n hashes that were read are the payload's hashes
pub read_told : (p list : List ℕ) (n : ℕ) → read_answer p list ≡ says 0 (n ∷ [])
    → (is_getdata p ≡ true) × (hashes_in (take (4 * n) (read_left p list)) ≡ getdata_hashes p)
unfolding read_answer
read_told p list n e =
    let hs : List Hash = getdata_hashes p in
    let t = answered_says (read_refusal p list) (length hs) n e in
    let k = read_fits p list t.0 in
    let put = (reads p hs list k.0 (λ i. hs) (omega (arith, length_words hs, k.1))).1 in
    let cut = take_at (hashes_words hs) (drop (length (hashes_words hs)) list) (4 * n) (omega (arith, length_words hs, t.1)) in
    (k.0, ap (λ (l : List ℕ). hashes_in (take (4 * n) l)) put ∙ ap hashes_in cut ∙ words_return hs)

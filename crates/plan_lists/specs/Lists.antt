-- A plan in its two lent lists: one ask more. Assumes nothing.
use Rattle.std.specs.Prelude.{◌≡◌, refl, List, [], ◌∷◌, ◌++◌, ℕ, suc, ◌+◌, ◌*◌, ◌≤◌, ◌<◌, length, take, drop, set}
use Rattle.std.proofs.Common.{sym, ap, ◌∙◌, append_assoc, arith, length-append, take_at, length-take-le, drop-drop}
use Rattle.std.proofs.Math.Seq.{drop-append-add}
use Rattle.std.proofs.lemmas.List.{set_split}
use Rattle.std.proofs.lemmas.List.Edits.{sets-eq}
use Rattle.model.specs.Hash.{hash_words}
use Rattle.model.specs.Calls.{Ask}
use Rattle.model.specs.Planning.{ask_hashes, ask_heights, written}
use Rattle.model.specs.declared.Hash.{Hash}
use Rattle.listed.specs.Index.{Indexed}
use Rattle.listed.specs.Laws.{alike_taken, indexed_alike}

-- ---- words in a list

-- the words v in the list l, from the place i on
unfoldable pub placed : ℕ → List ℕ → List ℕ → List ℕ
placed i v l = take i l ++ (v ++ drop (i + length v) l)

-- four stores in a row
pub four_placed : (l : List ℕ) (k : ℕ) (h : Hash) → k + 4 ≤ length l
    → set (set (set (set l k h.a) (k + 1) h.b) (k + 2) h.c) (k + 3) h.d ≡ placed k (hash_words h) l
unfolding placed
four_placed l k h fits =
    let e₁ : k + 1 ≡ suc k = omega arith in
    let e₂ : k + 2 ≡ suc (suc k) = omega arith in
    let e₃ : k + 3 ≡ suc (suc (suc k)) = omega arith in
    (λ i. set (set (set (set l k h.a) (e₁ i) h.b) (e₂ i) h.c) (e₃ i) h.d) ∙ sets-eq (hash_words h) l k fits
    ∙ append_assoc (take k l) (hash_words h) (drop (k + 4) l)

-- one store
pub one_placed : (l : List ℕ) (n v : ℕ) → n < length l → set l n v ≡ placed n (v ∷ []) l
unfolding placed
one_placed l n v h = let e : suc n ≡ n + 1 = omega arith in set_split l n v h ∙ ap (λ (m : ℕ). take n l ++ (v ∷ drop m l)) e

-- what a store of a part leaves
pub put_placed : (i z : ℕ) (v y l : List ℕ) → z ≡ length v → y ≡ v → take i l ++ (y ++ drop z (drop i l)) ≡ placed i v l
unfolding placed
put_placed i z v y l e q = (λ j. take i l ++ (q j ++ drop (e j) (drop i l))) ∙ ap (λ (x : List ℕ). take i l ++ (v ++ x)) (drop-drop (length v) i l)

-- what is before them
pub placed_before : (n : ℕ) (v l : List ℕ) → n ≤ length l → take n (placed n v l) ≡ take n l
unfolding placed
placed_before n v l h = take_at (take n l) (v ++ drop (n + length v) l) n (length-take-le n l h)

-- an index over the hashes before them stays one
pub placed_indexed : (n : ℕ) (v old new index : List ℕ) → new ≡ placed (4 * n) v old → 4 * n ≤ length old → Indexed n old index → Indexed n new index
placed_indexed n v old new index e h g =
    indexed_alike n old new index (alike_taken n old new (sym (ap (take (4 * n)) e ∙ placed_before (4 * n) v old h))) g

-- after words that are written already
pub written_more : (u v l : List ℕ) (n : ℕ) → n ≡ length u → placed n v (written u l) ≡ written (u ++ v) l
unfolding placed written
written_more u v l n e =
    let d = drop (length u) l in
    let k : length u + length v ≡ length (u ++ v) = sym (length-append u v) in
    (λ i. take_at u d n (sym e) i ++ (v ++ drop (e i + length v) (u ++ d)))
    ∙ ap (λ (x : List ℕ). u ++ (v ++ x)) (drop-append-add u d (length v) ∙ drop-drop (length v) (length u) l ∙ ap (λ (m : ℕ). drop m l) k)
    ∙ sym (append_assoc u v (drop (length (u ++ v)) l))

-- ---- asks in words

pub hashes_more : (asks : List Ask) (a : Ask) → ask_hashes (asks ++ (a ∷ [])) ≡ ask_hashes asks ++ hash_words a.hash
unfolding ask_hashes
hashes_more [] a = refl
hashes_more (x ∷ asks) a = ap (λ (r : List ℕ). x.hash.a ∷ x.hash.b ∷ x.hash.c ∷ x.hash.d ∷ r) (hashes_more asks a)

pub heights_more : (asks : List Ask) (a : Ask) → ask_heights (asks ++ (a ∷ [])) ≡ ask_heights asks ++ (a.height ∷ [])
unfolding ask_heights
heights_more [] a = refl
heights_more (x ∷ asks) a = ap (λ (r : List ℕ). x.height ∷ r) (heights_more asks a)

pub hashes_length : (asks : List Ask) → length (ask_hashes asks) ≡ 4 * length asks
unfolding ask_hashes
hashes_length [] = refl
hashes_length (x ∷ asks) = omega (arith, hashes_length asks)

pub heights_length : (asks : List Ask) → length (ask_heights asks) ≡ length asks
unfolding ask_heights
heights_length [] = refl
heights_length (x ∷ asks) = ap suc (heights_length asks)

-- the lists of one ask more
pub hashes_put : (asks : List Ask) (a : Ask) (lent list : List ℕ) (n : ℕ) → n ≡ length asks → list ≡ written (ask_hashes asks) lent
    → placed (4 * n) (hash_words a.hash) list ≡ written (ask_hashes (asks ++ (a ∷ []))) lent
hashes_put asks a lent list n k e =
    ap (placed (4 * n) (hash_words a.hash)) e
    ∙ written_more (ask_hashes asks) (hash_words a.hash) lent (4 * n) (omega (arith, k, hashes_length asks))
    ∙ ap (λ (u : List ℕ). written u lent) (sym (hashes_more asks a))

pub heights_put : (asks : List Ask) (a : Ask) (lent list : List ℕ) (n : ℕ) → n ≡ length asks → list ≡ written (ask_heights asks) lent
    → placed n (a.height ∷ []) list ≡ written (ask_heights (asks ++ (a ∷ []))) lent
heights_put asks a lent list n k e =
    ap (placed n (a.height ∷ [])) e
    ∙ written_more (ask_heights asks) (a.height ∷ []) lent n (k ∙ sym (heights_length asks))
    ∙ ap (λ (u : List ℕ). written u lent) (sym (heights_more asks a))

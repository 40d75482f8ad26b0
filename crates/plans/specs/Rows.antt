-- Hashes as rows of four words, `[[u64; 4]; n]` in the code. Assumes nothing.
use Rattle.std.specs.Prelude.{◌≡◌, refl, List, [], ◌∷◌, ◌++◌, ℕ, zero, suc, ◌+◌, ◌-◌, ◌*◌, ◌≤◌, length, get_or, replicate}
use Rattle.std.proofs.Common.{ap, ◌∙◌, arith}
use Rattle.model.specs.Lists.{pad}
use Rattle.model.specs.Hash.{hash, hashes_in, hashes_words}
use Rattle.model.specs.Layout.{planned_words}
use Rattle.laws.specs.Tables.{length_hashes}
use Rattle.model.specs.declared.Hash.{Hash}

-- the words of a row
abbrev pub row_words : List ℕ → List ℕ
row_words r = get_or r 0 0 ∷ get_or r 1 0 ∷ get_or r 2 0 ∷ get_or r 3 0 ∷ []

-- its hash
abbrev pub row_hash : List ℕ → Hash
row_hash r = hash (get_or r 0 0) (get_or r 1 0) (get_or r 2 0) (get_or r 3 0)

-- the words of n rows from the row i on, one row after the other
abbrev pub words_from : ℕ → ℕ → List (List ℕ) → List ℕ
words_from i zero rows = []
words_from i (suc n) rows = row_words (get_or rows i []) ++ words_from (suc i) n rows

-- and their hashes
abbrev pub hashes_from : ℕ → ℕ → List (List ℕ) → List Hash
hashes_from i zero rows = []
hashes_from i (suc n) rows = row_hash (get_or rows i []) ∷ hashes_from (suc i) n rows

unfoldable pub rows_words : ℕ → List (List ℕ) → List ℕ
rows_words n rows = words_from 0 n rows

unfoldable pub rows_hashes : ℕ → List (List ℕ) → List Hash
rows_hashes n rows = hashes_from 0 n rows

-- the hashes in the words of some rows
pub hashes_rows : (n : ℕ) (rows : List (List ℕ)) → hashes_in (rows_words n rows) ≡ rows_hashes n rows
unfolding rows_words rows_hashes hashes_in
hashes_rows n rows = from 0 n
  where
    from : (i n : ℕ) → hashes_in (words_from i n rows) ≡ hashes_from i n rows
    from i zero = refl
    from i (suc n) = ap (λ (l : List Hash). row_hash (get_or rows i []) ∷ l) (from (suc i) n)

-- ---- rows of which the first n are hashes and the others 0

-- a row of zeros
abbrev pub zero_row : List ℕ
zero_row = 0 ∷ 0 ∷ 0 ∷ 0 ∷ []

zeros : (c i : ℕ) (rows : List (List ℕ)) → ((j : ℕ) → i ≤ j → row_words (get_or rows j []) ≡ zero_row) → words_from i c rows ≡ replicate (4 * c) 0
zeros zero i rows z = refl
zeros (suc c) i rows z =
    let e : suc (suc (suc (suc (4 * c)))) ≡ 4 * suc c = omega arith in
    (λ k. z i (omega arith) k ++ zeros c (suc i) rows (λ j h. z j (omega (arith, h))) k) ∙ ap (λ (n : ℕ). replicate n 0) e

padded : (n c i : ℕ) (rows : List (List ℕ)) → n ≤ c → ((j : ℕ) → i + n ≤ j → row_words (get_or rows j []) ≡ zero_row)
    → words_from i c rows ≡ hashes_words (hashes_from i n rows) ++ replicate (4 * (c - n)) 0
unfolding hashes_words
padded zero c i rows h z =
    let e : c ≡ c - 0 = omega arith in
    zeros c i rows (λ j g. z j (omega (arith, g))) ∙ ap (λ (n : ℕ). replicate (4 * n) 0) e
padded (suc n) zero i rows h z = absurd (omega arith)
padded (suc n) (suc c) i rows h z =
    let e : c - n ≡ suc c - suc n = omega arith in
    ap (λ (l : List ℕ). row_words (get_or rows i []) ++ l)
    (padded n c (suc i) rows (omega arith) (λ j g. z j (omega (arith, g))) ∙ ap (λ (k : ℕ). hashes_words (hashes_from (suc i) n rows) ++ replicate (4 * k) 0) e)

length_from : (i n : ℕ) (rows : List (List ℕ)) → length (hashes_from i n rows) ≡ n
length_from i zero rows = refl
length_from i (suc n) rows = ap suc (length_from (suc i) n rows)

-- so eight rows are `planned_words` of the first n hashes
pub rows_planned : (n : ℕ) (rows : List (List ℕ)) → n ≤ 8 → ((j : ℕ) → n ≤ j → row_words (get_or rows j []) ≡ zero_row) → rows_words 8 rows ≡ planned_words (rows_hashes n rows)
unfolding rows_words rows_hashes planned_words pad
rows_planned n rows h z =
    let e : 4 * (8 - n) ≡ 32 - length (hashes_words (hashes_from 0 n rows)) = omega (arith, length_hashes (hashes_from 0 n rows), length_from 0 n rows) in
    padded n 8 0 rows h (λ j g. z j (omega (arith, g))) ∙ ap (λ (k : ℕ). hashes_words (hashes_from 0 n rows) ++ replicate k 0) e

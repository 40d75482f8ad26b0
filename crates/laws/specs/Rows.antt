-- The words as eight columns, the loop over them, and the entries of the table by their columns. Assumes nothing.
use Rattle.std.specs.Prelude.{◌≡◌, refl, List, [], ◌∷◌, ◌++◌, map, ℕ, zero, suc, ◌+◌, ◌-◌, ◌*◌, ◌≤◌, ◌<◌, drop, get_or}
use Rattle.std.proofs.Math.Path.{sym, ap}
use Rattle.std.proofs.Common.{◌∙◌, le_of_suc-le-suc, not-suc-le-zero, one-add, arith, length-drop, drop_of_length-le, drop-cons, drop-drop, take-take, length-take-le, get_or-take, get_or-drop, below_more}
use Rattle.std.proofs.Math.ListN.{length, take, replicate, length-map}
use Rattle.column.proofs.Parts.{put, put_long, put_part, put_after, put_lower, put_higher, take_drop}
use Rattle.column.specs.Edits.{remove_at, insert_at, inserted, keep_by, kept_by}
use Rattle.model.specs.Layout.{blank, entry_at, rows, field}
use Rattle.model.specs.declared.Entry.{Entry}

-- the column at k
abbrev pub col : ℕ → List ℕ → List ℕ
col k ws = take 256 (drop (256 * k) ws)

-- the same, as the code's part has it
abbrev pub mid : ℕ → List ℕ → List ℕ
mid k w = take (256 * k + 256 - 256 * k) (drop (256 * k) w)

-- ---- the loop over the columns: those below k are F of what they were, and the others and the rest are as they were

pub record Upto (F : ℕ → List ℕ → List ℕ) (k : ℕ) (w₀ w : List ℕ) : Type 0 where
  pub done : (j : ℕ) → j < k → col j w ≡ F j (col j w₀)
  pub todo : (j : ℕ) → k ≤ j → col j w ≡ col j w₀
  pub rest : drop 2048 w ≡ drop 2048 w₀
  pub long : length w ≡ length w₀

module _ (F : ℕ → List ℕ → List ℕ) where
  pub upto_start : (w : List ℕ) → Upto F 0 w w
  upto_start w = record { done = λ j h. absurd (not-suc-le-zero h); todo = λ j h. refl; rest = refl; long = refl }

  pub upto_step : (k : ℕ) (w₀ w y : List ℕ) → k < 8 → length w₀ ≡ 4096 → length y ≡ 256 → y ≡ F k (col k w) → Upto F k w₀ w → Upto F (k + 1) w₀ (put (256 * k) 256 w y)
  upto_step k w₀ w y h n l e u =
      let fits : 256 * k + 256 ≤ length w = omega (arith, u.long) in
      record {
        done = below_more (λ (j : ℕ). col j (put (256 * k) 256 w y) ≡ F j (col j w₀)) k
            (λ j g. put_lower (256 * k) 256 w y fits l (256 * j) 256 (omega arith) ∙ u.done j g)
            (put_part (256 * k) 256 w y fits l ∙ e ∙ ap (F k) (u.todo k (omega arith)));
        todo = λ j g. put_higher (256 * k) 256 w y fits l (256 * j) 256 (omega arith) ∙ u.todo j (omega arith);
        rest = put_after (256 * k) 256 w y fits l 2048 (omega arith) ∙ u.rest;
        long = put_long (256 * k) 256 w y fits l ∙ u.long;
      }

  -- the same, in the words of a call that was lent the part `&mut words[a..e]`, with a and e as the code has them
  pub upto_call : (k : ℕ) (w₀ w y : List ℕ) → k < 8 → length w₀ ≡ 4096 → length y ≡ length (mid k w) → y ≡ F k (mid k w)
      → Upto F k w₀ w → Upto F (k + 1) w₀ (put (256 * k) (256 * k + 256 - 256 * k) w y)
  upto_call k w₀ w y h n kept is u =
      let e : 256 * k + 256 - 256 * k ≡ 256 = omega arith in
      let long : length y ≡ 256 = (rw e at kept) ∙ length-take-le 256 (drop (256 * k) w) (rw length-drop (omega (arith, u.long))) in
      rw e (upto_step k w₀ w y h n long (rw e at is) u)

-- ---- entries and columns

pub field_blank : (k : ℕ) → field k blank ≡ 0
field_blank zero = refl
field_blank (suc zero) = refl
field_blank (suc (suc zero)) = refl
field_blank (suc (suc (suc zero))) = refl
field_blank (suc (suc (suc (suc zero)))) = refl
field_blank (suc (suc (suc (suc (suc zero))))) = refl
field_blank (suc (suc (suc (suc (suc (suc zero)))))) = refl
field_blank (suc (suc (suc (suc (suc (suc (suc zero))))))) = refl
field_blank (suc (suc (suc (suc (suc (suc (suc (suc n)))))))) = refl

field_at : (k : ℕ) → k < 8 → (ws : List ℕ) → field k (entry_at ws) ≡ get_or ws (256 * k) 0
unfolding entry_at
field_at zero h ws = refl
field_at (suc zero) h ws = refl
field_at (suc (suc zero)) h ws = refl
field_at (suc (suc (suc zero))) h ws = refl
field_at (suc (suc (suc (suc zero)))) h ws = refl
field_at (suc (suc (suc (suc (suc zero))))) h ws = refl
field_at (suc (suc (suc (suc (suc (suc zero)))))) h ws = refl
field_at (suc (suc (suc (suc (suc (suc (suc zero))))))) h ws = refl
field_at (suc (suc (suc (suc (suc (suc (suc (suc n)))))))) h ws = absurd (omega arith)

-- two lists of entries are equal by their columns
pub entries_ext : (es fs : List Entry) → ((k : ℕ) → k < 8 → map (field k) es ≡ map (field k) fs) → es ≡ fs
entries_ext [] [] h = refl
entries_ext [] (f ∷ fs) h = absurd (omega (arith, ap length (h 0 (omega arith))))
entries_ext (e ∷ es) [] h = absurd (omega (arith, ap length (h 0 (omega arith))))
entries_ext (e ∷ es) (f ∷ fs) h =
    let same : (k : ℕ) → k < 8 → field k e ≡ field k f = λ k b. ap (λ (l : List ℕ). get_or l 0 0) (h k b) in
    let tail : es ≡ fs = entries_ext es fs (λ k b. ap (drop 1) (h k b)) in
    λ i. record {
      hash = record { a = same 0 (omega arith) i; b = same 1 (omega arith) i; c = same 2 (omega arith) i; d = same 3 (omega arith) i };
      owner = same 4 (omega arith) i;
      time = same 5 (omega arith) i;
      height = same 6 (omega arith) i;
      estimate = same 7 (omega arith) i;
    } ∷ tail i

-- a column of the first n places
pub col_rows : (k : ℕ) → k < 8 → (n : ℕ) (ws : List ℕ) → 256 * k + n ≤ length ws → map (field k) (rows n ws) ≡ take n (drop (256 * k) ws)
unfolding rows
col_rows k b zero ws h = refl
col_rows k b (suc n) ws h =
    let inside : 256 * k < length ws = omega arith in
    let rest : map (field k) (rows n (drop 1 ws)) ≡ take n (drop (suc (256 * k)) ws) =
    col_rows k b n (drop 1 ws) (rw length-drop (omega arith)) ∙ ap (take n) (drop-drop (256 * k) 1 ws ∙ rw one-add) in
    (λ i. field_at k b ws i ∷ rest i) ∙ sym (ap (take (suc n)) (drop-cons ws (256 * k) 0 inside))

-- where each column is F of what it was, the entries are G of what they were, if G does to a list of entries what F does to its columns
pub lift : (F : ℕ → List ℕ → List ℕ) (G : List Entry → List Entry) → ((k : ℕ) → k < 8 → (es : List Entry) → map (field k) (G es) ≡ F k (map (field k) es))
    → (w₀ w : List ℕ) → length w₀ ≡ 4096 → Upto F 8 w₀ w → rows 256 w ≡ G (rows 256 w₀)
lift F G natural w₀ w n u = entries_ext (rows 256 w) (G (rows 256 w₀)) (λ k b.
    col_rows k b 256 w (omega (arith, u.long)) ∙ u.done k b ∙ sym (natural k b (rows 256 w₀) ∙ ap (F k) (col_rows k b 256 w₀ (omega arith))))

-- the entries are in the first 2,048 words
pub rows_prefix : (w w' : List ℕ) → 2048 ≤ length w → 2048 ≤ length w' → take 2048 w ≡ take 2048 w' → rows 256 w ≡ rows 256 w'
rows_prefix w w' n n' e = entries_ext (rows 256 w) (rows 256 w') (λ k b. at k b w n ∙ ap (λ (l : List ℕ). take 256 (drop (256 * k) l)) e ∙ sym (at k b w' n'))
  where
    at : (k : ℕ) → k < 8 → (w : List ℕ) → 2048 ≤ length w → map (field k) (rows 256 w) ≡ take 256 (drop (256 * k) (take 2048 w))
    at k b w n =
        col_rows k b 256 w (omega arith) ∙ take_drop 256 (256 * k) w ∙ ap (drop (256 * k)) (sym (take-take (256 * k + 256) 2048 w (omega arith)))
        ∙ sym (take_drop 256 (256 * k) (take 2048 w))

pub length_rows : (n : ℕ) (ws : List ℕ) → length (rows n ws) ≡ n
unfolding rows
length_rows zero ws = refl
length_rows (suc n) ws = ap suc (length_rows n (drop 1 ws))

-- the entry at i
pub rows_at : (n i : ℕ) (ws : List ℕ) → i < n → get_or (rows n ws) i blank ≡ entry_at (drop i ws)
unfolding rows
rows_at zero i ws h = absurd (not-suc-le-zero h)
rows_at (suc n) zero ws h = refl
rows_at (suc n) (suc i) ws h = rows_at n i (drop 1 ws) (le_of_suc-le-suc h) ∙ ap entry_at (drop-drop i 1 ws ∙ rw one-add)

-- the first m entries: how many, and the one at i
pub length_live : (m : ℕ) (ws : List ℕ) → m ≤ 256 → length (take m (rows 256 ws)) ≡ m
length_live m ws k = length-take-le m (rows 256 ws) (rw length_rows k)

pub live_at : (m i : ℕ) (ws : List ℕ) → i < m → m ≤ 256 → get_or (take m (rows 256 ws)) i blank ≡ entry_at (drop i ws)
live_at m i ws h k = get_or-take m (rows 256 ws) i blank h ∙ rows_at 256 i ws (omega arith)

-- a scan over them: what is left at i begins with the entry at i
pub live_cons : (m i : ℕ) (ws : List ℕ) → i < m → m ≤ 256 → drop i (take m (rows 256 ws)) ≡ entry_at (drop i ws) ∷ drop (suc i) (take m (rows 256 ws))
live_cons m i ws h k =
    drop-cons (take m (rows 256 ws)) i blank (rw (length_live m ws k) h) ∙ ap (λ (e : Entry). e ∷ drop (suc i) (take m (rows 256 ws))) (live_at m i ws h k)

pub live_end : (m : ℕ) (ws : List ℕ) → m ≤ 256 → drop m (take m (rows 256 ws)) ≡ []
live_end m ws k = drop_of_length-le (take m (rows 256 ws)) {i = m} (rw (length_live m ws k) (omega arith))

pub word_at : (i : ℕ) (ws : List ℕ) (k : ℕ) → k < 8 → field k (entry_at (drop i ws)) ≡ get_or ws (i + 256 * k) 0
word_at i ws k b = field_at k b (drop i ws) ∙ get_or-drop i ws (256 * k) 0

-- ---- what each operation does to a column

module _ {A B : Type 0} (f : A → B) where
  pub map_removed : (n : ℕ) (l : List A) (z : A) → map f (remove_at n l ++ (z ∷ [])) ≡ remove_at n (map f l) ++ (f z ∷ [])
  map_removed zero [] z = refl
  map_removed zero (x ∷ l) z = map_snoc l z
    where
      map_snoc : (l : List A) (z : A) → map f (l ++ (z ∷ [])) ≡ map f l ++ (f z ∷ [])
      map_snoc [] z = refl
      map_snoc (x ∷ l) z = ap (λ (r : List B). f x ∷ r) (map_snoc l z)
  map_removed (suc n) [] z = refl
  map_removed (suc n) (x ∷ l) z = ap (λ (r : List B). f x ∷ r) (map_removed n l z)

-- the entries by what is done to them, with the rest as it was
module _ {A B : Type 0} (f : A → B) where
  pub map_take : (n : ℕ) (l : List A) → map f (take n l) ≡ take n (map f l)
  map_take zero l = refl
  map_take (suc n) [] = refl
  map_take (suc n) (x ∷ l) = ap (λ (r : List B). f x ∷ r) (map_take n l)

  map_insert_at : (n : ℕ) (v : A) (l : List A) → map f (insert_at n v l) ≡ insert_at n (f v) (map f l)
  map_insert_at zero v l = refl
  map_insert_at (suc n) v [] = refl
  map_insert_at (suc n) v (x ∷ l) = ap (λ (r : List B). f x ∷ r) (map_insert_at n v l)

  pub map_inserted : (n : ℕ) (v : A) (l : List A) → map f (inserted n v l) ≡ inserted n (f v) (map f l)
  unfolding inserted
  map_inserted n v l = map_take (length l) (insert_at n v l) ∙ (λ i. take (sym (length-map l f) i) (map_insert_at n v l i))

  map_keep_by : (ms : List ℕ) (l : List A) → map f (keep_by ms l) ≡ keep_by ms (map f l)
  map_keep_by [] l = refl
  map_keep_by (m ∷ ms) [] = refl
  map_keep_by (zero ∷ ms) (x ∷ l) = ap (λ (r : List B). f x ∷ r) (map_keep_by ms l)
  map_keep_by (suc m ∷ ms) (x ∷ l) = map_keep_by ms l

  map_append : (l r : List A) → map f (l ++ r) ≡ map f l ++ map f r
  map_append [] r = refl
  map_append (x ∷ l) r = ap (λ (q : List B). f x ∷ q) (map_append l r)

  map_replicate : (n : ℕ) (z : A) → map f (replicate n z) ≡ replicate n (f z)
  map_replicate zero z = refl
  map_replicate (suc n) z = ap (λ (q : List B). f z ∷ q) (map_replicate n z)

  pub map_kept : (ms : List ℕ) (z : A) (l : List A) → map f (kept_by ms z l) ≡ kept_by ms (f z) (map f l)
  unfolding kept_by
  map_kept ms z l =
      let many : length l - length (keep_by ms l) ≡ length (map f l) - length (keep_by ms (map f l)) =
      omega (arith, length-map l f, sym (length-map (keep_by ms l) f) ∙ ap length (map_keep_by ms l)) in
      map_append (keep_by ms l) (replicate (length l - length (keep_by ms l)) z)
      ∙ (λ i. map_keep_by ms l i ++ map_replicate (length l - length (keep_by ms l)) z i)
      ∙ ap (λ (n : ℕ). keep_by ms (map f l) ++ replicate n (f z)) many

-- A table forgets no word; the operations on a table, and what they are to its words. Assumes nothing.
use Rattle.std.specs.Prelude.{◌≡◌, List, [], ◌∷◌, ◌++◌, map, get_or, set}
use Rattle.std.proofs.Math.Path.{refl, sym, ap}
use Rattle.std.proofs.Common.{◌∙◌, append_assoc, length-append, drop-drop, take-add, get_or-take, get_or-drop, take_at, drop_at}
use Prim.Native.Nat.{ℕ, zero, suc, ◌+◌, ◌-◌, ◌*◌, ◌≤◌, ◌<◌}
use native.Mathlib.Omega.{arith}
use Rattle.std.proofs.Math.ListN.{length, take, drop, length-drop, take-append-drop}
use Rattle.std.proofs.lemmas.List.{length-map}
use Rattle.std.proofs.Math.Seq.{length-take-le, drop-append-le}
use Rattle.column.proofs.Parts.{put, put_long, put_part, put_before, put_after, put_lower, put_higher, take_drop}
use Rattle.column.specs.Edits.{remove_at, inserted, kept_by}
use Rattle.model.specs.Hash.{hashes_words}
use Rattle.model.specs.Seats.{start_reset, body_reset, keep_seats}
use Rattle.model.specs.LettingGo.{flagged}
use Rattle.model.specs.Layout.{Table, blank, entry_at, rows, decode, field, columns, flat, word}
use Rattle.model.specs.declared.Entry.{Entry}
use Rattle.model.specs.declared.Hash.{Hash}
use Rattle.laws.specs.Rows.{Upto, field_blank, lift, entries_ext, col_rows, rows_prefix, rows_at, length_rows, map_removed, map_inserted, map_kept}

-- ---- one part replaced, the others as they were

abbrev pub parts : List Entry → List ℕ → List ℕ → List ℕ → List ℕ → List ℕ → List ℕ → List ℕ → Table
parts es sp st bo ke co ra he = record { entries = es; spare = sp; starts = st; bodies = bo; keys = ke; cooling = co; racers = ra; head = he }

unfoldable pub with_entries : List Entry → Table → Table
with_entries l t = parts l t.spare t.starts t.bodies t.keys t.cooling t.racers t.head

unfoldable pub with_starts : List ℕ → Table → Table
with_starts l t = parts t.entries t.spare l t.bodies t.keys t.cooling t.racers t.head

unfoldable pub with_bodies : List ℕ → Table → Table
with_bodies l t = parts t.entries t.spare t.starts l t.keys t.cooling t.racers t.head

unfoldable pub with_keys : List ℕ → Table → Table
with_keys l t = parts t.entries t.spare t.starts t.bodies l t.cooling t.racers t.head

unfoldable pub with_cooling : List ℕ → Table → Table
with_cooling l t = parts t.entries t.spare t.starts t.bodies t.keys l t.racers t.head

unfoldable pub with_racers : List ℕ → Table → Table
with_racers l t = parts t.entries t.spare t.starts t.bodies t.keys t.cooling l t.head

unfoldable pub with_head : List ℕ → Table → Table
with_head l t = parts t.entries t.spare t.starts t.bodies t.keys t.cooling t.racers l

-- ---- the operations

-- the entry at n taken out
unfoldable pub removed : ℕ → Table → Table
removed n t = with_entries (remove_at n t.entries ++ (blank ∷ [])) t

-- an entry put in at n
unfoldable pub put_in : ℕ → Entry → Table → Table
put_in n e t = with_entries (inserted n e t.entries) t

-- the entries whose mark is 0
unfoldable pub kept_rows : List ℕ → Table → Table
kept_rows ms t = with_entries (kept_by ms blank t.entries) t

-- l with m in its places from k on
unfoldable pub replaced : ℕ → List ℕ → List ℕ → List ℕ
replaced k m l = take k l ++ (m ++ drop (k + length m) l)

-- the head's words from k on
unfoldable pub with_words : ℕ → List ℕ → Table → Table
with_words k m t = with_head (replaced k m t.head) t

-- the owner's start and last body after its entry asked at `gone` went, by the oldest that is left
unfoldable pub seat_reset : ℕ → ℕ → ℕ → ℕ → Table → Table
seat_reset owner gone now old t =
    with_bodies (set t.bodies owner (body_reset old (get_or t.bodies owner 0)))
    (with_starts (set t.starts owner (start_reset now (suc gone) old (get_or t.starts owner 0))) t)

-- starts and last bodies of the seats that have no flag dropped
unfoldable pub kept_seats : List ℕ → Table → Table
kept_seats flags t =
    with_bodies (keep_seats (flagged flags) 0 t.bodies) (with_starts (keep_seats (flagged flags) 0 t.starts) t)

-- ---- lists of the right lengths

pub record Sized (t : Table) : Type 0 where
  pub entries : length t.entries ≡ 256
  pub spare : length t.spare ≡ 256
  pub starts : length t.starts ≡ 256
  pub bodies : length t.bodies ≡ 256
  pub keys : length t.keys ≡ 256
  pub cooling : length t.cooling ≡ 256
  pub racers : length t.racers ≡ 256
  pub head : length t.head ≡ 512

-- ---- a table forgets no word

module _ (ws : List ℕ) (n : length ws ≡ 4096) where
  part_long : (a : ℕ) → a + 256 ≤ 4096 → length (take 256 (drop a ws)) ≡ 256
  part_long a h = length-take-le 256 (drop a ws) (rw length-drop (omega arith))

  pub sized_decode : Sized (decode ws)
  unfolding decode
  sized_decode = record {
    entries = length_rows 256 ws;
    spare = part_long 2048 (omega arith);
    starts = part_long 2304 (omega arith);
    bodies = part_long 2560 (omega arith);
    keys = part_long 2816 (omega arith);
    cooling = part_long 3072 (omega arith);
    racers = part_long 3328 (omega arith);
    head = rw length-drop (omega arith);
  }

  cols_are : (k : ℕ) → k ≤ 8 → columns k (rows 256 ws) ≡ take (256 * k) ws
  unfolding columns
  cols_are zero b = refl
  cols_are (suc k) b =
      let more : 256 * suc k ≡ 256 * k + 256 = omega arith in
      rw (more, take-add) (λ i. cols_are k (omega arith) i ++ col_rows k (omega arith) 256 ws (omega arith) i)

  -- a part of 256 words and what is after it
  joined : (a b : ℕ) (r : List ℕ) → a + 256 ≡ b → r ≡ drop b ws → take 256 (drop a ws) ++ r ≡ drop a ws
  joined a b r e q =
      ap (λ (l : List ℕ). take 256 (drop a ws) ++ l) (q ∙ ap (λ (i : ℕ). drop i ws) (sym e) ∙ sym (drop-drop 256 a ws)) ∙ take-append-drop 256 (drop a ws)

  pub flat_decode : flat (decode ws) ≡ ws
  unfolding flat decode
  flat_decode =
      (λ i. cols_are 8 (omega arith) i
      ++ joined 2048 2304 _ (omega arith) (joined 2304 2560 _ (omega arith) (joined 2560 2816 _ (omega arith) (joined 2816 3072 _ (omega arith)
      (joined 3072 3328 _ (omega arith) (joined 3328 3584 _ (omega arith) refl))))) i) ∙ take-append-drop 2048 ws

-- so words are the words of a table that they decode to
pub words_are : (ws : List ℕ) (t : Table) → length ws ≡ 4096 → decode ws ≡ t → ws ≡ flat t
words_are ws t n e = sym (flat_decode ws n) ∙ ap flat e

-- ---- and the other way round

length_columns : (es : List Entry) → length es ≡ 256 → (k : ℕ) → length (columns k es) ≡ 256 * k
unfolding columns
length_columns es n zero = refl
length_columns es n (suc k) = length-append (columns k es) (map (field k) es) ∙ omega (arith, length_columns es n k, length-map es (field k))

-- a column of the columns, of which d come after it
col_among : (es : List Entry) → length es ≡ 256 → (d j k : ℕ) (r : List ℕ) → j ≡ d + k → take 256 (drop (256 * k) (columns (suc j) es ++ r)) ≡ map (field k) es
unfolding columns
col_among es n zero j k r e =
    let same : j ≡ k = omega arith in
    ap (λ (i : ℕ). take 256 (drop (256 * k) (columns (suc i) es ++ r))) same
    ∙ ap (λ (l : List ℕ). take 256 (drop (256 * k) l)) (append_assoc (columns k es) (map (field k) es) r)
    ∙ ap (take 256) (drop_at (columns k es) (map (field k) es ++ r) (256 * k) (length_columns es n k))
    ∙ take_at (map (field k) es) r 256 (length-map es (field k) ∙ n)
col_among es n (suc d) zero k r e = absurd (omega arith)
col_among es n (suc d) (suc j) k r e =
    ap (λ (l : List ℕ). take 256 (drop (256 * k) l)) (append_assoc (columns (suc j) es) (map (field (suc j)) es) r)
    ∙ col_among es n d j k (map (field (suc j)) es ++ r) (omega arith)

col_columns : (es : List Entry) → length es ≡ 256 → (k : ℕ) (r : List ℕ) → k < 8 → take 256 (drop (256 * k) (columns 8 es ++ r)) ≡ map (field k) es
col_columns es n k r h = col_among es n (7 - k) 7 k r (omega arith)

-- a part of 256 words, and what is after it, in what comes at a
part_at : (a b : ℕ) (w p r : List ℕ) → a + 256 ≡ b → length p ≡ 256 → drop a w ≡ p ++ r → (take 256 (drop a w) ≡ p) × (drop b w ≡ r)
part_at a b w p r e n q =
    (ap (take 256) q ∙ take_at p r 256 n, ap (λ (i : ℕ). drop i w) (sym e) ∙ sym (drop-drop 256 a w) ∙ ap (drop 256) q ∙ drop_at p r 256 n)

module _ (t : Table) (s : Sized t) where
  pub length_flat : length (flat t) ≡ 4096
  unfolding flat
  length_flat =
      simp (length-append, length_columns t.entries s.entries 8)
      (omega (arith, s.spare, s.starts, s.bodies, s.keys, s.cooling, s.racers, s.head))

  pub decode_flat : decode (flat t) ≡ t
  unfolding flat decode
  decode_flat =
      let es = t.entries in
      let r = t.spare ++ (t.starts ++ (t.bodies ++ (t.keys ++ (t.cooling ++ (t.racers ++ t.head))))) in
      let w = columns 8 es ++ r in
      let cols : rows 256 w ≡ es =
      entries_ext (rows 256 w) es (λ k b. col_rows k b 256 w (omega (arith, length_flat)) ∙ col_columns es s.entries k r b) in
      let a = part_at 2048 2304 w t.spare _ (omega arith) s.spare (drop_at (columns 8 es) r 2048 (length_columns es s.entries 8)) in
      let b = part_at 2304 2560 w t.starts _ (omega arith) s.starts a.1 in
      let c = part_at 2560 2816 w t.bodies _ (omega arith) s.bodies b.1 in
      let d = part_at 2816 3072 w t.keys _ (omega arith) s.keys c.1 in
      let e = part_at 3072 3328 w t.cooling _ (omega arith) s.cooling d.1 in
      let f = part_at 3328 3584 w t.racers t.head (omega arith) s.racers e.1 in
      λ i. record { entries = cols i; spare = a.0 i; starts = b.0 i; bodies = c.0 i; keys = d.0 i; cooling = e.0 i; racers = f.0 i; head = f.1 i }

-- ---- what is read from a table, in the words

pub entry_decode : (i : ℕ) (ws : List ℕ) → i < 256 → get_or (decode ws).entries i blank ≡ entry_at (drop i ws)
unfolding decode
entry_decode i ws h = rows_at 256 i ws h

pub word_decode : (k : ℕ) (ws : List ℕ) → word k (decode ws) ≡ get_or ws (3584 + k) 0
unfolding word decode
word_decode k ws = get_or-drop 3584 ws k 0

-- the same, as code counts it from a place k
pub word_offset : (k j : ℕ) (ws : List ℕ) → get_or ws (3584 + k + j) 0 ≡ word (k + j) (decode ws)
word_offset k j ws = let e : 3584 + k + j ≡ 3584 + (k + j) = omega arith in ap (λ (n : ℕ). get_or ws n 0) e ∙ sym (word_decode (k + j) ws)

-- a word of a table of 256
pub seat_word : (a s : ℕ) (ws : List ℕ) → s < 256 → get_or (take 256 (drop a ws)) s 0 ≡ get_or ws (a + s) 0
seat_word a s ws h = get_or-take 256 (drop a ws) s 0 h ∙ get_or-drop a ws s 0

-- ---- what the operations on entries are to the words

decode_by : (F : ℕ → List ℕ → List ℕ) (G : List Entry → List Entry) → ((k : ℕ) → k < 8 → (es : List Entry) → map (field k) (G es) ≡ F k (map (field k) es))
    → (w₀ w : List ℕ) → length w₀ ≡ 4096 → Upto F 8 w₀ w → decode w ≡ with_entries (G (decode w₀).entries) (decode w₀)
unfolding decode with_entries
decode_by F G natural w₀ w l u =
    let from : (n m : ℕ) → 2048 + n ≡ m → drop m w ≡ drop m w₀ =
    λ n m e. ap (λ (i : ℕ). drop i w) (sym e) ∙ sym (drop-drop n 2048 w) ∙ ap (drop n) u.rest ∙ drop-drop n 2048 w₀ ∙ ap (λ (i : ℕ). drop i w₀) e in
    λ i. record {
      entries = lift F G natural w₀ w l u i;
      spare = take 256 (u.rest i);
      starts = take 256 (from 256 2304 (omega arith) i);
      bodies = take 256 (from 512 2560 (omega arith) i);
      keys = take 256 (from 768 2816 (omega arith) i);
      cooling = take 256 (from 1024 3072 (omega arith) i);
      racers = take 256 (from 1280 3328 (omega arith) i);
      head = from 1536 3584 (omega arith) i;
    }

abbrev pub removed_col : ℕ → ℕ → List ℕ → List ℕ
removed_col n k c = remove_at n c ++ (0 ∷ [])

pub decode_removed : (n : ℕ) (w₀ w : List ℕ) → length w₀ ≡ 4096 → Upto (removed_col n) 8 w₀ w → decode w ≡ removed n (decode w₀)
unfolding removed
decode_removed n w₀ w l u =
    decode_by (removed_col n) (λ (es : List Entry). remove_at n es ++ (blank ∷ []))
    (λ k b es. map_removed (field k) n es blank ∙ ap (λ (z : ℕ). remove_at n (map (field k) es) ++ (z ∷ [])) (field_blank k)) w₀ w l u

abbrev pub put_col : ℕ → Entry → ℕ → List ℕ → List ℕ
put_col n e k c = inserted n (field k e) c

pub decode_put_in : (n : ℕ) (e : Entry) (w₀ w : List ℕ) → length w₀ ≡ 4096 → Upto (put_col n e) 8 w₀ w → decode w ≡ put_in n e (decode w₀)
unfolding put_in
decode_put_in n e w₀ w l u = decode_by (put_col n e) (inserted n e) (λ k b es. map_inserted (field k) n e es) w₀ w l u

abbrev pub kept_col : List ℕ → ℕ → List ℕ → List ℕ
kept_col ms k c = kept_by ms 0 c

pub decode_kept : (ms w₀ w : List ℕ) → length w₀ ≡ 4096 → Upto (kept_col ms) 8 w₀ w → decode w ≡ kept_rows ms (decode w₀)
unfolding kept_rows
decode_kept ms w₀ w l u =
    decode_by (kept_col ms) (kept_by ms blank) (λ k b es. map_kept (field k) ms blank es ∙ ap (λ (z : ℕ). kept_by ms z (map (field k) es)) (field_blank k)) w₀ w l u

-- ---- a part past the entries that was lent and is back as y

module _ (w y : List ℕ) (n : length w ≡ 4096) where
  same_rows : (a m : ℕ) → 2048 ≤ a → a + m ≤ 4096 → length y ≡ m → rows 256 (put a m w y) ≡ rows 256 w
  same_rows a m h k long =
      let fits : a + m ≤ length w = omega arith in
      rows_prefix (put a m w y) w (omega (arith, put_long a m w y fits long)) (omega arith) (put_before a m w y fits long 2048 h)

  module _ (long : length y ≡ 256) where
    -- the words before and after one of the tables
    lower : (a b : ℕ) → a + 256 ≤ 4096 → b + 256 ≤ a → take 256 (drop b (put a 256 w y)) ≡ take 256 (drop b w)
    lower a b f h = put_lower a 256 w y (omega arith) long b 256 h

    higher : (a b : ℕ) → a + 256 ≤ b → b ≤ 4096 → take 256 (drop b (put a 256 w y)) ≡ take 256 (drop b w)
    higher a b h f = put_higher a 256 w y (omega arith) long b 256 h

    pub decode_starts : decode (put 2304 256 w y) ≡ with_starts y (decode w)
    unfolding decode with_starts
    decode_starts = λ i. parts (same_rows 2304 256 (omega arith) (omega arith) long i)
        (lower 2304 2048 (omega arith) (omega arith) i) (put_part 2304 256 w y (omega arith) long i) (higher 2304 2560 (omega arith) (omega arith) i)
        (higher 2304 2816 (omega arith) (omega arith) i) (higher 2304 3072 (omega arith) (omega arith) i) (higher 2304 3328 (omega arith) (omega arith) i)
        (put_after 2304 256 w y (omega arith) long 3584 (omega arith) i)

    pub decode_bodies : decode (put 2560 256 w y) ≡ with_bodies y (decode w)
    unfolding decode with_bodies
    decode_bodies = λ i. parts (same_rows 2560 256 (omega arith) (omega arith) long i)
        (lower 2560 2048 (omega arith) (omega arith) i) (lower 2560 2304 (omega arith) (omega arith) i) (put_part 2560 256 w y (omega arith) long i)
        (higher 2560 2816 (omega arith) (omega arith) i) (higher 2560 3072 (omega arith) (omega arith) i) (higher 2560 3328 (omega arith) (omega arith) i)
        (put_after 2560 256 w y (omega arith) long 3584 (omega arith) i)

    pub decode_keys : decode (put 2816 256 w y) ≡ with_keys y (decode w)
    unfolding decode with_keys
    decode_keys = λ i. parts (same_rows 2816 256 (omega arith) (omega arith) long i)
        (lower 2816 2048 (omega arith) (omega arith) i) (lower 2816 2304 (omega arith) (omega arith) i) (lower 2816 2560 (omega arith) (omega arith) i)
        (put_part 2816 256 w y (omega arith) long i) (higher 2816 3072 (omega arith) (omega arith) i) (higher 2816 3328 (omega arith) (omega arith) i)
        (put_after 2816 256 w y (omega arith) long 3584 (omega arith) i)

    pub decode_cooling : decode (put 3072 256 w y) ≡ with_cooling y (decode w)
    unfolding decode with_cooling
    decode_cooling = λ i. parts (same_rows 3072 256 (omega arith) (omega arith) long i)
        (lower 3072 2048 (omega arith) (omega arith) i) (lower 3072 2304 (omega arith) (omega arith) i) (lower 3072 2560 (omega arith) (omega arith) i)
        (lower 3072 2816 (omega arith) (omega arith) i) (put_part 3072 256 w y (omega arith) long i) (higher 3072 3328 (omega arith) (omega arith) i)
        (put_after 3072 256 w y (omega arith) long 3584 (omega arith) i)

    pub decode_racers : decode (put 3328 256 w y) ≡ with_racers y (decode w)
    unfolding decode with_racers
    decode_racers = λ i. parts (same_rows 3328 256 (omega arith) (omega arith) long i)
        (lower 3328 2048 (omega arith) (omega arith) i) (lower 3328 2304 (omega arith) (omega arith) i) (lower 3328 2560 (omega arith) (omega arith) i)
        (lower 3328 2816 (omega arith) (omega arith) i) (lower 3328 3072 (omega arith) (omega arith) i) (put_part 3328 256 w y (omega arith) long i)
        (put_after 3328 256 w y (omega arith) long 3584 (omega arith) i)

  -- the head's part, in its words
  drop_put : (a k m : ℕ) → a + k + m ≤ length w → length y ≡ m → drop a (put (a + k) m w y) ≡ replaced k y (drop a w)
  unfolding replaced
  drop_put a k m h long =
      let f : length (take (a + k) w) ≡ a + k = length-take-le (a + k) w (omega arith) in
      let e : a + k + m ≡ a + (k + length y) = omega (arith, long) in
      drop-append-le a (take (a + k) w) (y ++ drop m (drop (a + k) w)) (omega arith)
      ∙ (λ i. sym (take_drop k a w) i ++ (y ++ (drop-drop m (a + k) w ∙ ap (λ (j : ℕ). drop j w) e ∙ sym (drop-drop (k + length y) a w)) i))

  pub decode_words : (a k m : ℕ) → 3584 + k ≡ a → k + m ≤ 512 → length y ≡ m → decode (put a m w y) ≡ with_words k y (decode w)
  unfolding decode with_words with_head
  decode_words a k m e h long =
      let fits : a + m ≤ length w = omega arith in
      let low : (b : ℕ) → b + 256 ≤ a → take 256 (drop b (put a m w y)) ≡ take 256 (drop b w) = λ b g. put_lower a m w y fits long b 256 g in
      λ i. record {
        entries = same_rows a m (omega arith) (omega arith) long i;
        spare = low 2048 (omega arith) i;
        starts = low 2304 (omega arith) i;
        bodies = low 2560 (omega arith) i;
        keys = low 2816 (omega arith) i;
        cooling = low 3072 (omega arith) i;
        racers = low 3328 (omega arith) i;
        head = (ap (λ (j : ℕ). drop 3584 (put j m w y)) (sym e) ∙ drop_put 3584 k m (omega arith) long) i;
      }

-- four words for each hash
pub length_hashes : (hs : List Hash) → length (hashes_words hs) ≡ 4 * length hs
unfolding hashes_words
length_hashes [] = refl
length_hashes (h ∷ hs) = omega (arith, length_hashes hs)

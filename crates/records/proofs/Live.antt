-- A column whose places from `live` on hold 0: what is done to its live places, and to one more, is done to all of it. Assumes nothing.
use mathlib.Core.Path.{◌≡◌, refl, sym, ap, subst, ◌∙◌}
use mathlib.Core.List.{List, [], ◌∷◌, ◌++◌, map, append_assoc}
use Prim.Native.Nat.{ℕ, zero, suc, ◌+◌, ◌-◌, ◌*◌, ◌≤◌, ◌<◌}
use native.Mathlib.Omega.{arith}
use lib.ListN.{length, take, drop, replicate, length-append, length-drop, take-append-drop}
use lib.Seq.{take_at, drop_at, length-take-le, take-take}
use Rattle.model.specs.Lists.{pad}
use Rattle.column.specs.Edits.{remove_at, insert_at, inserted}
use Rattle.model.specs.Layout.{blank, rows, field, decode}
use Rattle.model.specs.declared.Entry.{Entry}
use Rattle.column.proofs.Laws.{length_removed, length_inserted}
use Rattle.column.proofs.Pads.{removed_pad, inserted_pad}
use Rattle.column.proofs.Parts.{put}
use Rattle.laws.specs.Rows.{col, mid, col_rows, field_blank, map_take, Upto}

-- ---- the columns of entries that are blank from a place on

map_drop : (f : Entry → ℕ) (n : ℕ) (l : List Entry) → map f (drop n l) ≡ drop n (map f l)
map_drop f zero l = refl
map_drop f (suc n) [] = refl
map_drop f (suc n) (x ∷ l) = map_drop f n l

map_blank : (k n : ℕ) → map (field k) (replicate n blank) ≡ replicate n 0
map_blank k zero = refl
map_blank k (suc n) = λ i. field_blank k i ∷ map_blank k n i

col_blank : (k live : ℕ) (ws : List ℕ) → k < 8 → length ws ≡ 4096 → drop live (rows 256 ws) ≡ replicate (256 - live) blank
    → drop live (col k ws) ≡ replicate (256 - live) 0
col_blank k live ws b n e =
    ap (drop live) (sym (col_rows k b 256 ws (omega arith))) ∙ sym (map_drop (field k) live (rows 256 ws)) ∙ ap (map (field k)) e ∙ map_blank k (256 - live)

-- the same, of the column that a loop has not come to yet, as the code's part has it
pub mid_blank : (k live : ℕ) (w₀ w : List ℕ) → k < 8 → length w₀ ≡ 4096 → col k w ≡ col k w₀ → drop live (decode w₀).entries ≡ replicate (256 - live) blank
    → drop live (mid k w) ≡ replicate (256 - live) 0
unfolding decode
mid_blank k live w₀ w b n same e =
    let m : 256 * k + 256 - 256 * k ≡ 256 = omega arith in
    rw m (ap (drop live) same ∙ col_blank k live w₀ b n e)

pub mid_long : (k : ℕ) (w₀ w : List ℕ) → k < 8 → length w₀ ≡ 4096 → length w ≡ length w₀ → length (mid k w) ≡ 256
mid_long k w₀ w b n e =
    let m : 256 * k + 256 - 256 * k ≡ 256 = omega arith in
    rw m (length-take-le 256 (drop (256 * k) w) (rw length-drop (omega arith)))

-- the live words of a column are those of the live records
pub live_col : (k m : ℕ) (ws : List ℕ) → k < 8 → m ≤ 256 → length ws ≡ 4096
    → take (256 * k + m - 256 * k) (drop (256 * k) ws) ≡ map (field k) (take m (rows 256 ws))
live_col k m ws b le n =
    let e : 256 * k + m - 256 * k ≡ m = omega arith in
    ap (λ (j : ℕ). take j (drop (256 * k) ws)) e
    ∙ sym (map_take (field k) m (rows 256 ws) ∙ ap (take m) (col_rows k b 256 ws (omega arith)) ∙ take-take m 256 (drop (256 * k) ws) le)

-- ---- one out, one in

-- the live places, and 0 after them
module _ (c : List ℕ) (live : ℕ) (long : length c ≡ 256) (few : live ≤ 256) (zeros : drop live c ≡ replicate (256 - live) 0) where
  length_live : length (take live c) ≡ live
  length_live = length-take-le live c (omega arith)

  padded : c ≡ pad 256 0 (take live c)
  unfolding pad
  padded = sym (take-append-drop live c) ∙ ap (λ (r : List ℕ). take live c ++ r) (zeros ∙ ap (λ (n : ℕ). replicate (256 - n) 0) (sym length_live))

  pub remove_part : (at m : ℕ) (y : List ℕ) → at < live → m ≡ live → y ≡ remove_at at (take m (drop 0 c)) ++ (0 ∷ []) → put 0 m c y ≡ remove_at at c ++ (0 ∷ [])
  unfolding pad
  remove_part at m y h e is =
      let l = take live c in
      let gone : suc (length (remove_at at l)) ≡ live = omega (arith, length_removed at l 0 (omega (arith, length_live)), length-append (remove_at at l) (0 ∷ []), length_live) in
      let more : 256 - length (remove_at at l) ≡ suc (256 - live) = omega arith in
      (λ i. (is ∙ ap (λ (n : ℕ). remove_at at (take n c) ++ (0 ∷ [])) e) i ++ (ap (λ (n : ℕ). drop n c) e ∙ zeros) i)
      ∙ append_assoc (remove_at at l) (0 ∷ []) (replicate (256 - live) 0)
      ∙ ap (λ (n : ℕ). remove_at at l ++ replicate n 0) (sym more)
      ∙ sym (removed_pad 256 at 0 l (omega (arith, length_live)) (omega (arith, length_live)))
      ∙ ap (λ (r : List ℕ). remove_at at r ++ (0 ∷ [])) (sym padded)

  pub insert_part : (at v m : ℕ) (y : List ℕ) → at ≤ live → live < 256 → m ≡ suc live → y ≡ inserted at v (take m (drop 0 c)) → put 0 m c y ≡ inserted at v c
  unfolding pad
  insert_part at v m y h room e is =
      let l = take live c in
      let r = 255 - live in
      let one : 256 - length l ≡ suc r = omega (arith, length_live) in
      let sum : c ≡ (l ++ (0 ∷ [])) ++ replicate r 0 =
      padded ∙ ap (λ (n : ℕ). l ++ replicate n 0) one ∙ sym (append_assoc l (0 ∷ []) (replicate r 0)) in
      let first : length (l ++ (0 ∷ [])) ≡ suc live = length-append l (0 ∷ []) ∙ omega (arith, length_live) in
      let taken : take m c ≡ l ++ (0 ∷ []) = (λ i. take (e i) (sum i)) ∙ take_at (l ++ (0 ∷ [])) (replicate r 0) (suc live) first in
      let left : drop m c ≡ replicate r 0 = (λ i. drop (e i) (sum i)) ∙ drop_at (l ++ (0 ∷ [])) (replicate r 0) (suc live) first in
      let alone : l ++ (0 ∷ []) ≡ pad (suc live) 0 l = let q : 1 ≡ suc live - length l = omega (arith, length_live) in ap (λ (n : ℕ). l ++ replicate n 0) q in
      let none : suc live - length (insert_at at v l) ≡ 0 = omega (arith, length_inserted at v l, length_live) in
      let rest : 256 - length (insert_at at v l) ≡ r = omega (arith, length_inserted at v l, length_live) in
      (λ i. (is ∙ ap (inserted at v) (taken ∙ alone) ∙ inserted_pad (suc live) at v 0 l (omega (arith, length_live)) (omega (arith, length_live))
      ∙ ap (λ (n : ℕ). insert_at at v l ++ replicate n 0) none) i ++ left i)
      ∙ append_assoc (insert_at at v l) [] (replicate r 0)
      ∙ ap (λ (n : ℕ). insert_at at v l ++ replicate n 0) (sym rest)
      ∙ sym (inserted_pad 256 at v 0 l (omega (arith, length_live)) (omega (arith, length_live)))
      ∙ ap (inserted at v) (sym padded)

-- ---- a loop over the eight columns that is through
pub all_columns : {F : ℕ → List ℕ → List ℕ} {k : ℕ} {w₀ w : List ℕ} → Upto F k w₀ w → k ≤ 8 → 8 ≤ k → Upto F 8 w₀ w
all_columns {F} {k} {w₀} {w} d most h =
    let eight : k ≡ 8 = omega arith in
    subst (λ (j : ℕ). Upto F j w₀ w) eight d

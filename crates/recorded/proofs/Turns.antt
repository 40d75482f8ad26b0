-- A loop that makes each word of a list anew, from the front: at its head the first i words are new. Assumes nothing.
use Rattle.std.proofs.Common.{◌≡◌, ℕ, zero, suc, ◌+◌, ◌<◌, ◌≤◌, List, [], ◌∷◌, length, get_or, set, sym, refl, ap, ◌∙◌, le_of_suc-le-suc, not-suc-le-zero, arith}
use Rattle.column.proofs.Laws.{over, over_step, over_read, over_done}
use Rattle.recorded.specs.Each.{each_from, each}

length_from : (f : ℕ → ℕ → ℕ) (i : ℕ) (l : List ℕ) → length (each_from f i l) ≡ length l
length_from f i [] = refl
length_from f i (x ∷ l) = ap suc (length_from f (suc i) l)

read_from : (f : ℕ → ℕ → ℕ) (i k : ℕ) (l : List ℕ) → k < length l → get_or (each_from f i l) k 0 ≡ f (i + k) (get_or l k 0)
read_from f i k [] h = absurd (not-suc-le-zero h)
read_from f i zero (x ∷ l) h =
    let e : i ≡ i + 0 = omega arith in
    ap (λ (j : ℕ). f j x) e
read_from f i (suc k) (x ∷ l) h =
    let e : suc i + k ≡ i + suc k = omega arith in
    read_from f (suc i) k l (le_of_suc-le-suc h) ∙ ap (λ (j : ℕ). f j (get_or l k 0)) e

-- the first i words are new
unfoldable pub Upto : (ℕ → ℕ → ℕ) → List ℕ → ℕ → List ℕ → Type 0
Upto f l i m = (i ≤ length l) × (length m ≡ length l) × (m ≡ over i (each f l) l)

pub upto_start : (f : ℕ → ℕ → ℕ) (l : List ℕ) → Upto f l 0 l
unfolding Upto
upto_start f l = (omega arith, refl, refl)

-- the word of a turn is as it was
pub upto_read : (f : ℕ → ℕ → ℕ) (l m : List ℕ) (i : ℕ) → Upto f l i m → get_or m i 0 ≡ get_or l i 0
unfolding Upto each
upto_read f l m i u =
    let e = length_from f 0 l in
    ap (λ (r : List ℕ). get_or r i 0) u.2 ∙ over_read (each f l) l i i 0 (omega (arith, u.0, e)) (omega arith)

pub upto_step : (f : ℕ → ℕ → ℕ) (l m : List ℕ) (i x : ℕ) → i < length m → Upto f l i m → x ≡ f i (get_or m i 0) → Upto f l (i + 1) (set m i x)
unfolding Upto each
upto_step f l m i x h u e =
    let k : i < length l = omega (arith, h, u.1) in
    let n = length_from f 0 l in
    let z : i ≡ 0 + i = omega arith in
    let y : x ≡ get_or (each f l) i 0 = e ∙ ap (f i) (upto_read f l m i u) ∙ ap (λ (j : ℕ). f j (get_or l i 0)) z ∙ sym (read_from f 0 i l k) in
    let next : suc i ≡ i + 1 = omega arith in (
      omega (arith, k),
      lib.ListN.length-set m i x ∙ u.1,
      ap (λ (r : List ℕ). set r i x) u.2 ∙ over_step (each f l) l i x 0 (omega (arith, k, n)) k y ∙ ap (λ (j : ℕ). over j (each f l) l) next,
    )

pub upto_done : (f : ℕ → ℕ → ℕ) (l m : List ℕ) (i : ℕ) → length m ≤ i → Upto f l i m → m ≡ each f l
unfolding Upto each
upto_done f l m i h u =
    let n = length_from f 0 l in
    let k : length l ≤ i = omega (arith, h, u.1) in
    u.2 ∙ over_done (each f l) l i (omega (arith, k, n)) k

pub upto_long : (f : ℕ → ℕ → ℕ) (l m : List ℕ) (i : ℕ) → Upto f l i m → length m ≡ length l
unfolding Upto
upto_long f l m i u = u.1

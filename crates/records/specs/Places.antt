-- Where a hash stands among entries, what a scan for the lowest finds, and a time that may be missing. Definitions, and what they are where the
-- entries rise. Assumes nothing.
use Rattle.std.specs.Prelude.{◌≡◌, refl, true, false, cond, List, [], ◌∷◌, ℕ, zero, suc, ◌≤◌, ◌<◌, length, get_or, ltb, Option, Some, None, Result, Ok, Err}
use Rattle.std.proofs.Common.{ap, suc-le-suc, zero-le, le_of_suc-le-suc, not-suc-le-zero, arith, ltb-true, ltb-false, lt-ltb, le-ltb, eqb-true, ne_eqb}
use Rattle.std.proofs.lemmas.Bool.{eqb-false}
use Rattle.model.specs.Numbers.{greater}
use Rattle.model.specs.Hash.{key, same, less}
use Rattle.column.specs.Edits.{remove_at, insert_at}
use Rattle.model.specs.Records.{found, remove, insert}
use Rattle.model.specs.Layout.{blank, less_first, rising}
use Rattle.laws.specs.Numbers.{and_left, and_right}
use Rattle.model.specs.declared.Hash.{Hash}
use Rattle.model.specs.declared.Entry.{Entry}

-- r parts l: the entry before it comes before h, and the one at it does not
pub record Parts (h : Hash) (l : List Entry) (r : ℕ) : Type 0 where
  pub within : r ≤ length l
  pub before : (k : ℕ) → suc k ≡ r → less (get_or l k blank).hash h ≡ true
  pub from : r < length l → less (get_or l r blank).hash h ≡ false

-- what a search for h in l answers: a place that parts l, and whether h is there
abbrev pub Finds : Hash → List Entry → Result ℕ ℕ → Type 0
Finds h l (Ok r) = Parts h l r × ((r < length l) × (same (get_or l r blank).hash h ≡ true))
Finds h l (Err r) = Parts h l r × (r < length l → same (get_or l r blank).hash h ≡ false)

-- the entry at a place below n
unfoldable pub front_at : ℕ → ℕ → List Entry → Option Entry
front_at n r l = cond (ltb r n) (Some (get_or l r blank)) None

-- a time that may be missing, as it is stored
abbrev pub stored : Option ℕ → ℕ
stored None = 0
stored (Some t) = suc t

-- the same, no lower than m where there is one
abbrev pub floored : ℕ → ℕ → ℕ
floored m zero = zero
floored m (suc u) = greater (suc u) m

-- ---- where the entries rise

-- the first is less than the next, and the others rise
next_less : (x y : Entry) (l : List Entry) → rising (x ∷ y ∷ l) ≡ true → key x.hash < key y.hash
unfolding rising less
next_less x y l r = ltb-true (key x.hash) (key y.hash) (and_left (less_first x (y ∷ l)) (rising (y ∷ l)) r)

tail_rises : (x : Entry) (l : List Entry) → rising (x ∷ l) ≡ true → rising l ≡ true
unfolding rising
tail_rises x l r = and_right (less_first x l) (rising l) r

-- and less than each after it
first_less : (x : Entry) (l : List Entry) (k : ℕ) → rising (x ∷ l) ≡ true → k < length l → key x.hash < key (get_or l k blank).hash
first_less x [] k r h = absurd (not-suc-le-zero h)
first_less x (y ∷ l) zero r h = next_less x y l r
first_less x (y ∷ l) (suc k) r h = omega (arith, first_less y l k (tail_rises x (y ∷ l) r) (le_of_suc-le-suc h), next_less x y l r)

-- tests and numbers
other : (g h : Hash) → key g < key h → same g h ≡ false
unfolding same
other g h lt = ne_eqb (key g) (key h) (λ q. absurd (omega (arith, q, lt)))

apart : (g h : Hash) → key h < key g → same g h ≡ false
unfolding same
apart g h lt = ne_eqb (key g) (key h) (λ q. absurd (omega (arith, q, lt)))

above : (g h : Hash) → less g h ≡ false → same g h ≡ false → key h < key g
unfolding less same
above g h n s = omega (arith, ltb-false (key g) (key h) n, eqb-false (key g) (key h) s)

lower : (g h : Hash) → key g < key h → less g h ≡ true
unfolding less
lower g h lt = lt-ltb (key g) (key h) lt

not_lower : (g h : Hash) → key h ≤ key g → less g h ≡ false
unfolding less
not_lower g h le = le-ltb (key g) (key h) le

-- the first of entries that rise, by the hash of a later one
later : (x : Entry) (l : List Entry) (k : ℕ) (h : Hash) → rising (x ∷ l) ≡ true → k < length l → same (get_or l k blank).hash h ≡ true → key x.hash < key h
unfolding same
later x l k h u lt s = omega (arith, first_less x l k u lt, eqb-true (key (get_or l k blank).hash) (key h) s)

-- and by a place further on that parts them
below : (h : Hash) (x : Entry) (l : List Entry) (r : ℕ) → rising (x ∷ l) ≡ true → Parts h (x ∷ l) (suc r) → key x.hash < key h
unfolding less
below h x l zero u p = ltb-true (key x.hash) (key h) (p.before 0 refl)
below h x l (suc r) u p =
    omega (arith, first_less x l r u (le_of_suc-le-suc p.within), ltb-true (key (get_or l r blank).hash) (key h) (p.before (suc r) refl))

parts_tail : (h : Hash) (x : Entry) (l : List Entry) (r : ℕ) → Parts h (x ∷ l) (suc r) → Parts h l r
parts_tail h x l r p = record { within = le_of_suc-le-suc p.within; before = λ k e. p.before (suc k) (ap suc e); from = λ lt. p.from (suc-le-suc lt) }

-- none of entries that rise, from one above h on, is of the hash h
none_above : (h : Hash) (x : Entry) (l : List Entry) → key h < key x.hash → rising (x ∷ l) ≡ true → found h (x ∷ l) ≡ None
unfolding found
none_above h x [] lt u = rw (apart x.hash h lt)
none_above h x (y ∷ l) lt u = rw (apart x.hash h lt) (none_above h y l (omega (arith, lt, next_less x y l u)) (tail_rises x (y ∷ l) u))

-- one that is there is found and removed at its place
pub here_found : (h : Hash) (l : List Entry) (r : ℕ) → rising l ≡ true → Finds h l (Ok r) → (found h l ≡ Some (get_or l r blank)) × (remove h l ≡ remove_at r l)
unfolding found remove
here_found h [] r u (p, (lt, s)) = absurd (not-suc-le-zero lt)
here_found h (x ∷ l) zero u (p, (lt, s)) = (rw s, rw s)
here_found h (x ∷ l) (suc r) u (p, (lt, s)) =
    let o = other x.hash h (later x l r h u (le_of_suc-le-suc lt) s) in
    let rest = here_found h l r (tail_rises x l u) (parts_tail h x l r p, (le_of_suc-le-suc lt, s)) in
    (rw o rest.0, rw o (ap (λ (m : List Entry). x ∷ m) rest.1))

-- one that is not goes in at its place
pub free_found : (h : Hash) (l : List Entry) (r : ℕ) → rising l ≡ true → Finds h l (Err r)
    → (found h l ≡ None) × ((e : Entry) → key e.hash ≡ key h → insert e l ≡ insert_at r e l)
unfolding found insert
free_found h [] zero u (p, s) = (refl, λ e q. refl)
free_found h [] (suc r) u (p, s) = absurd (not-suc-le-zero p.within)
free_found h (x ∷ l) zero u (p, s) =
    let up = above x.hash h (p.from (suc-le-suc zero-le)) (s (suc-le-suc zero-le)) in
    (none_above h x l up u, λ e q. rw (lower e.hash x.hash (omega (arith, q, up))))
free_found h (x ∷ l) (suc r) u (p, s) =
    let down = below h x l r u p in
    let rest = free_found h l r (tail_rises x l u) (parts_tail h x l r p, λ lt. s (suc-le-suc lt)) in
    (rw (other x.hash h down) rest.0, λ e q. rw (not_lower e.hash x.hash (omega (arith, q, down))) (ap (λ (m : List Entry). x ∷ m) (rest.1 e q)))

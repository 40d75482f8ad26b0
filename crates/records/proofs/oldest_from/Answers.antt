-- `records::oldest_from` meets its contract: at the loop's head the flag and the number hold the oldest from i on, and it is
-- above the floor. Assumes nothing.
use mathlib.Core.Path.{◌≡◌, refl, sym, ap, subst, ◌∙◌}
use mathlib.Core.Logic.{inl, inr}
use mathlib.Core.Bool.{Bool, true, false, cond}
use mathlib.Core.List.{List, [], ◌∷◌}
use Prim.Native.Nat.{ℕ, zero, suc, ◌+◌, ◌-◌, ◌≤◌, ◌<◌}
use native.Mathlib.Omega.{arith}
use lib.ListN.{take, drop, get_or}
use lib.Dec.{eqb, leb}
use borrow.Author.Tests.{leb-true, leb-false}
use Rattle.model.specs.Numbers.{lesser, greater}
use Rattle.model.specs.Seats.{sooner, oldest}
use Rattle.model.specs.Layout.{entry_at, rows, decode}
use Rattle.laws.specs.Numbers.{both, lesser_first, lesser_second, lesser_le_second, le_lesser, greater_first, greater_second}
use Rattle.laws.specs.Rows.{live_cons, live_end, word_at}
use Rattle.model.specs.declared.Entry.{Entry}
use Rattle.records.specs.Places.{stored, floored}
use Rattle.records.proofs.oldest_from.Invariants.{Kept}
use Rattle.records.proofs.oldest_from.Goals as goal

lesser_suc : (t low : ℕ) → lesser (suc t) (suc low) ≡ suc (lesser t low)
lesser_suc t low = elim (both (leb t low)) [
  | inl q ↦ lesser_first (suc t) (suc low) (omega (arith, leb-true t low q)) ∙ ap suc (sym (lesser_first t low (leb-true t low q)))
  | inr q ↦ lesser_second (suc t) (suc low) (omega (arith, leb-false t low q)) ∙ ap suc (sym (lesser_second t low (omega (arith, leb-false t low q))))
]

-- a turn, by its test
kept : (b any : Bool) (t low n : ℕ) → t < 18446744073709551616 → Kept any low n
    → Kept (cond b true any) (cond b (lesser t low) low) (cond b (sooner (suc t) n) n)
kept false any t low n h k = k
kept true true t low n h k = ap (sooner (suc t)) k ∙ lesser_suc t low
kept true false t low n h (e, z) = ap (sooner (suc t)) z ∙ ap suc (sym (lesser_first t low (omega (arith, e, h))))

-- the oldest from j on, by the oldest after it
from : (o m j : ℕ) (ws : List ℕ) → j < m → m ≤ 256
    → cond (eqb (get_or ws (j + 1024) 0) o) (sooner (suc (get_or ws (j + 1280) 0)) (oldest o (drop (suc j) (take m (rows 256 ws)))))
    (oldest o (drop (suc j) (take m (rows 256 ws))))
    ≡ oldest o (drop j (take m (rows 256 ws)))
unfolding oldest
from o m j ws h k =
    let x : (entry_at (drop j ws)).owner ≡ get_or ws (j + 1024) 0 = word_at j ws 4 (omega arith) in
    let y : (entry_at (drop j ws)).time ≡ get_or ws (j + 1280) 0 = word_at j ws 5 (omega arith) in
    let was = oldest o (drop (suc j) (take m (rows 256 ws))) in
    (λ i. cond (eqb (sym x i) o) (sooner (suc (sym y i)) was) was) ∙ sym (ap (oldest o) (live_cons m j ws h k))

turn : (o m i j low low' : ℕ) (any any' : Bool) (ws : List ℕ) → i ≡ suc j → j < m → m ≤ 256 → get_or ws (j + 1280) 0 < 18446744073709551616
    → Kept any low (oldest o (drop i (take m (rows 256 ws)))) → low' ≡ cond (eqb (get_or ws (j + 1024) 0) o) (lesser (get_or ws (j + 1280) 0) low) low
    → any' ≡ cond (eqb (get_or ws (j + 1024) 0) o) true any → Kept any' low' (oldest o (drop j (take m (rows 256 ws))))
turn o m i j low low' any any' ws p h k fits was is-low is_any =
    let was' = subst (λ (n : ℕ). Kept any low (oldest o (drop n (take m (rows 256 ws))))) p was in
    let b = eqb (get_or ws (j + 1024) 0) o in
    let t = get_or ws (j + 1280) 0 in
    let q = kept b any t low (oldest o (drop (suc j) (take m (rows 256 ws)))) fits was' in
    let q₁ = subst (λ (n : ℕ). Kept (cond b true any) (cond b (lesser t low) low) n) (from o m j ws h k) q in
    let q₂ = subst (λ (n : ℕ). Kept (cond b true any) n (oldest o (drop j (take m (rows 256 ws))))) (sym is-low) q₁ in
    subst (λ (a : Bool). Kept a low' (oldest o (drop j (take m (rows 256 ws))))) (sym is_any) q₂

-- ---- the floor

first_le : (a b : ℕ) → a ≤ greater a b
first_le a b = elim (both (leb a b)) [
  | inl q ↦ rw (greater_second a b (leb-true a b q)) (leb-true a b q)
  | inr q ↦ rw (greater_first a b (omega (arith, leb-false a b q))) (omega arith)
]

some : (t u : ℕ) → 0 < lesser (suc t) (suc u)
some t u = le_lesser (suc t) (suc u) 1 (omega arith) (omega arith)

at_most : (m n : ℕ) → 0 < n → n ≤ m → floored m n ≡ m
at_most m zero h k = absurd (omega arith)
at_most m (suc u) h k = greater_second (suc u) m k

-- one above it is itself
above : (m low n : ℕ) (any : Bool) → m ≤ low → Kept any low n → n ≡ floored m n
above m low n true h k = subst (λ (x : ℕ). x ≡ floored m x) (sym k) (sym (greater_first (suc low) m (omega arith)))
above m low n false h (q, z) = subst (λ (x : ℕ). x ≡ floored m x) (sym z) refl

-- one below it is the floor
below : (m low n : ℕ) (any : Bool) → low < m → m < 18446744073709551616 → Kept any low n → floored m n ≡ m
below m low n true h f k = subst (λ (x : ℕ). floored m x ≡ m) (sym k) (greater_second (suc low) m h)
below m low n false h f (q, z) = absurd (omega (arith, q))

-- and so is what is older
older : (m t n : ℕ) (b : Bool) → 0 < m → floored m n ≡ m → floored m (cond b (sooner (suc t) n) n) ≡ m
older m t n false h e = e
older m t zero true h e = absurd (omega (arith, e))
older m t (suc u) true h e =
    let low : suc u ≤ m = omega (arith, e, first_le (suc u) m) in
    at_most m (lesser (suc t) (suc u)) (some t u) (omega (arith, low, lesser_le_second (suc t) (suc u)))

older_all : (m o j : ℕ) (l : List Entry) → 0 < m → floored m (oldest o (drop j l)) ≡ m → floored m (oldest o l) ≡ m
unfolding oldest
older_all m o zero l h e = e
older_all m o (suc j) [] h e = e
older_all m o (suc j) (x ∷ l) h e = older m x.time (oldest o l) (eqb x.owner o) h (older_all m o j l h e)

-- the answers
done : (m : ℕ) (any : Bool) (low n r : ℕ) → m ≤ low → Kept any low n → r ≡ cond any (suc low) 0 → r ≡ floored m n
done m true low n r h k e = e ∙ sym k ∙ above m low n true h k
done m false low n r h (q, z) e = e ∙ sym z ∙ above m low n false h (q, z)

pub loop-i-init : goal.loop-i-init
unfolding oldest
loop-i-init c = (omega arith, (refl, ap (oldest c.args.owner) (live_end c.args.count c.args.words.now (omega arith))))

pub returns-then-low-floor : goal.returns-then-low-floor
unfolding decode
returns-then-low-floor c =
    let a = c.args in
    let l = c.loop-i in
    let live = take a.count (rows 256 a.words.now) in
    let last =
    turn a.owner a.count l.i (l.i - 1) l.low c.low_after-low.result l.any c.any_after-any.result a.words.now (omega arith) (omega arith)
    (omega arith) (omega arith) l.invariant.1 c.low_after-low.ensures c.any_after-any.ensures in
    let one : suc (a.floor - 1) ≡ a.floor = omega arith in
    one ∙ sym (older_all a.floor a.owner (l.i - 1) live (omega arith)
    (below a.floor c.low_after-low.result (oldest a.owner (drop (l.i - 1) live)) c.any_after-any.result (omega arith) (omega arith) last))

pub loop-i-preserved : goal.loop-i-preserved
loop-i-preserved c =
    let a = c.args in
    let l = c.loop-i in (
      omega arith,
      turn a.owner a.count l.i (l.i - 1) l.low c.low_after-low.result l.any c.any_after-any.result a.words.now (omega arith) (omega arith)
          (omega arith) (omega arith) l.invariant.1 c.low_after-low.ensures c.any_after-any.ensures,
    )

pub returns : goal.returns
unfolding decode
returns c =
    let l = c.loop-i in
    let a = c.args in
    let e : l.i ≡ 0 = omega arith in
    done a.floor l.any l.low (oldest a.owner (drop 0 (take a.count (rows 256 a.words.now)))) (stored c.oldest_by.result) l.invariant.0
    (subst (λ (n : ℕ). Kept l.any l.low (oldest a.owner (drop n (take a.count (rows 256 a.words.now))))) e l.invariant.1) c.oldest_by.ensures

-- The next height of a plan: no lower than the frontier, no higher than a height can be. Assumes nothing.
use Rattle.std.specs.Prelude.{◌≡◌, List, [], ◌∷◌, ℕ, ◌≤◌, ltb, leb, length, take, None, Some, Option}
use Rattle.std.proofs.Common.{inl, inr, arith, leb-true}
use Rattle.model.specs.Numbers.{lesser, greater, next_height, max_height}
use Rattle.model.specs.Window.{Step}
use Rattle.model.specs.Calls.{Ask}
use Rattle.model.specs.Planning.{Lent, Draft, Scan, held_back, noticed, past, next_after, reach, open_in_reach, candidates}
use Rattle.laws.specs.Numbers.{both, lesser_le_first, second_le_greater, greater_le, next_height_le}
use Rattle.plan_laws.specs.Cases.{From, stretch, scanned, retried}

pub first_le_greater : (a b : ℕ) → a ≤ greater a b
unfolding greater
first_le_greater a b = elim (both (leb a b)) [
  | inl q ↦ rw q (leb-true a b q)
  | inr q ↦ rw q (omega arith)
]

-- ---- no lower than the frontier f

held_ge : (low : Option ℕ) (f next : ℕ) → f ≤ next → f ≤ held_back low f next
held_ge None f next b = b
held_ge (Some n) f next b = second_le_greater (lesser next n) f

past_ge : (ks : List Ask) (n : ℕ) → n ≤ past ks n
unfolding past
past_ge [] n = omega arith
past_ge (a ∷ ks) n = omega (arith, past_ge ks (greater n (next_height a.height)), first_le_greater n (next_height a.height))

after_ge : (s : Scan) (cs : List Ask) → s.next ≤ next_after s cs
unfolding next_after
after_ge s cs = elim (both (ltb (length cs) s.limit)) [
  | inl q ↦ rw q (omega (arith, past_ge (take s.limit cs) s.next, first_le_greater (past (take s.limit cs) s.next) (next_height s.tip)))
  | inr q ↦ rw q (past_ge (take s.limit cs) s.next)
]

pub from_ge : {l : Lent} {t : Step} {s : Scan} {d : Draft} {asks : List Ask} {next : ℕ} → s.next ≡ t.window.frontier → From l t s d asks next → t.window.frontier ≤ next
from_ge {s = s} e (stretch c b k) = omega (arith, first_le_greater s.next (next_height (reach s.limit s)))
from_ge {l} {t} {s} {d} e (scanned b k) =
    let cs = candidates l t.window s d.asks in
    held_ge (noticed l (open_in_reach l t.window s d.asks) d.low) t.window.frontier (next_after s cs) (omega (arith, after_ge s cs))
from_ge {t = t} {s = s} {d = d} e retried = held_ge d.low t.window.frontier s.next (omega arith)

-- ---- no higher than a height can be

held_le : (low : Option ℕ) (f next : ℕ) → f ≤ max_height → next ≤ max_height → held_back low f next ≤ max_height
held_le None f next a b = b
held_le (Some n) f next a b = greater_le (lesser next n) f max_height (omega (arith, lesser_le_first next n)) a

past_low : (ks : List Ask) (n : ℕ) → n ≤ max_height → past ks n ≤ max_height
unfolding past
past_low [] n b = b
past_low (a ∷ ks) n b = past_low ks (greater n (next_height a.height)) (greater_le n (next_height a.height) max_height b (next_height_le a.height))

after_low : (s : Scan) (cs : List Ask) → s.next ≤ max_height → next_after s cs ≤ max_height
unfolding next_after
after_low s cs b = let p = past_low (take s.limit cs) s.next b in elim (both (ltb (length cs) s.limit)) [
  | inl q ↦ rw q (greater_le (past (take s.limit cs) s.next) (next_height s.tip) max_height p (next_height_le s.tip))
  | inr q ↦ rw q p
]

pub from_low : {l : Lent} {t : Step} {s : Scan} {d : Draft} {asks : List Ask} {next : ℕ} → s.next ≤ max_height → t.window.frontier ≤ max_height → From l t s d asks next → next ≤ max_height
from_low {s = s} b f (stretch c a k) = greater_le s.next (next_height (reach s.limit s)) max_height b (next_height_le (reach s.limit s))
from_low {l} {t} {s} {d} b f (scanned a k) =
    let cs = candidates l t.window s d.asks in
    held_le (noticed l (open_in_reach l t.window s d.asks) d.low) t.window.frontier (next_after s cs) f (after_low s cs b)
from_low {t = t} {s = s} {d = d} b f retried = held_le d.low t.window.frontier s.next f b

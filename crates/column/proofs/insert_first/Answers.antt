-- `column::insert_first` meets its contract. Assumes nothing.
use mathlib.Core.Path.{◌≡◌, refl, ap, ◌∙◌}
use mathlib.Core.List.{List, [], ◌∷◌, ◌++◌, append-nil}
use Prim.Native.Nat.{ℕ, suc, ◌+◌, ◌-◌, ◌≤◌, ◌<◌}
use native.Mathlib.Nat.{not-suc-le-zero}
use native.Mathlib.Omega.{arith}
use lib.ListN.{length, take, drop, set, drop_of_length-le}
use Rattle.std.specs.List.{copy_within}
use Rattle.column.specs.Edits.{inserted}
use Rattle.column.proofs.insert_first.Goals as goal

-- all but the last moved up, and v in the first place
moved_up : (v : ℕ) (l : List ℕ) → 0 < length l → set (copy_within l 0 (length l - 1) 1) 0 v ≡ inserted 0 v l
unfolding inserted
moved_up v [] h = absurd (not-suc-le-zero h)
moved_up v (x ∷ l) h =
    let k = suc (length l) - 1 - 0 in
    let few : k ≡ length l = omega arith in
    let all : 1 + k ≡ suc (length l) = omega arith in
    let none : drop (suc (length l)) (x ∷ l) ≡ [] = drop_of_length-le l (omega arith) in
    (λ i. v ∷ (take (few i) (x ∷ l) ++ drop (all i) (x ∷ l)))
    ∙ ap (λ (r : List ℕ). v ∷ (take (length l) (x ∷ l) ++ r)) none
    ∙ ap (λ (r : List ℕ). v ∷ r) (append-nil (take (length l) (x ∷ l)))

no_place : (v : ℕ) (l : List ℕ) → length l ≤ 0 → l ≡ inserted 0 v l
unfolding inserted
no_place v [] h = refl
no_place v (x ∷ l) h = absurd (not-suc-le-zero h)

pub returns-then-n-gt0 : goal.returns-then-n-gt0
returns-then-n-gt0 c = ap (λ (w : List ℕ). set w 0 c.args.value) c.copy_within.ensures.after ∙ moved_up c.args.value c.args.col.now c.if-n-gt0.true

pub returns-else-n-gt0 : goal.returns-else-n-gt0
returns-else-n-gt0 c = no_place c.args.value c.args.col.now c.if-n-gt0.false

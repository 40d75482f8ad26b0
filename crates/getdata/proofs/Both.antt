-- The laws that the writer's and the reader's proofs share: a part of what is lent that comes back, four places all written. Assumes nothing.
use mathlib.Core.Path.{◌≡◌, refl, sym, ap, ◌∙◌}
use mathlib.Core.List.{List, [], ◌∷◌, ◌++◌, append_assoc}
use Prim.Native.Nat.{ℕ, ◌+◌, ◌≤◌}
use native.Mathlib.Omega.{arith}
use lib.ListN.{length, take, drop, set, length-append, length-drop}
use lib.Seq.{take_at, length-take-le}

-- what the borrow checker says that w is once its part of m places from a on is back as y
abbrev pub put : ℕ → ℕ → List ℕ → List ℕ → List ℕ
put a m w y = take a w ++ (y ++ drop m (drop a w))

pub put_long : (a m : ℕ) (w y : List ℕ) → a + m ≤ length w → length y ≡ m → length (put a m w y) ≡ length w
put_long a m w y h e = simp (length-append, length-drop, length-take-le a w (omega (arith, h))) (omega arith)

pub put_front : (a m : ℕ) (w y : List ℕ) → a + m ≤ length w → length y ≡ m → take (a + m) (put a m w y) ≡ take a w ++ y
put_front a m w y h l =
    let front : length (take a w) ≡ a = length-take-le a w (omega arith) in
    ap (take (a + m)) (sym (append_assoc (take a w) y (drop m (drop a w)))) ∙ take_at (take a w ++ y) (drop m (drop a w)) (a + m) (simp (length-append, front, l) refl)

pub all_of_four : (l : List ℕ) (x y z u : ℕ) → length l ≡ 4 → set (set (set (set l 0 x) 1 y) 2 z) 3 u ≡ x ∷ y ∷ z ∷ u ∷ []
all_of_four [] x y z u e = absurd (omega arith)
all_of_four (a ∷ []) x y z u e = absurd (omega arith)
all_of_four (a ∷ b ∷ []) x y z u e = absurd (omega arith)
all_of_four (a ∷ b ∷ c ∷ []) x y z u e = absurd (omega arith)
all_of_four (a ∷ b ∷ c ∷ d ∷ []) x y z u e = refl
all_of_four (a ∷ b ∷ c ∷ d ∷ f ∷ l) x y z u e = absurd (omega arith)

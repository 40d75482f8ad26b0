-- The recorded numbers in bytes: each is how many bytes it has, and its bytes, the highest first. Definitions only.
use Rattle.std.specs.Prelude.{◌≡◌, ℕ, suc, ◌+◌, ◌-◌, ◌*◌, ◌%◌, cond, List, [], ◌∷◌, ◌==◌, slice_set}

-- how many bytes a number still lacks after one more: where none is begun, the byte says how many
abbrev pub left_after : ℕ → ℕ → ℕ
left_after left b = cond (left == 0) b (left - 1)

-- of its bytes so far, the last eight: 2 ^ 56 is what stays beside one more byte
abbrev pub value_after : ℕ → ℕ → ℕ → ℕ
value_after left value b = cond (left == 0) 0 (value % 72057594037927936 * 256 + b)

-- a number that lacks no byte stands before the others
abbrev pub emitted : ℕ → ℕ → List ℕ → List ℕ
emitted left value ns = cond (left == 0) (value ∷ ns) ns

-- the numbers of the bytes, where one is begun that lacks some
unfoldable pub numbers_from : ℕ → ℕ → List ℕ → List ℕ
numbers_from left value [] = []
numbers_from left value (b ∷ bs) =
    emitted (left_after left b) (value_after left value b) (numbers_from (left_after left b) (value_after left value b) bs)

abbrev pub numbers_of : List ℕ → List ℕ
numbers_of bs = numbers_from 0 0 bs

-- numbers put from a place on, as far as there is room
unfoldable pub put_at : ℕ → List ℕ → List ℕ → List ℕ
put_at n [] out = out
put_at n (x ∷ ns) out = put_at (suc n) ns (slice_set out n x)

-- what is to be put after r numbers is what was to be put after n, with one that is whole before it
abbrev pub Keeps : ℕ → ℕ → ℕ → List ℕ → List ℕ → ℕ → Type 0
Keeps n left value out out' r = (ns : List ℕ) → put_at r ns out' ≡ put_at n (emitted left value ns) out

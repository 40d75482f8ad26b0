-- When a row of words is the recorded one.
use Rattle.std.specs.Prelude.{ℕ, zero, suc, ◌+◌, ◌%◌, ◌^◌, Bool, true, ◌&&◌, ◌||◌, List, length, ◌==◌, nat_le, nat_lt, slice_index}

-- of each `every` words, those from the first to before the last are compared
abbrev pub skips : ℕ → ℕ → ℕ → ℕ → Bool
skips every first last i = nat_lt (i % every) first || nat_le last (i % every)

-- That part of the first n of k words is the numbers' from a place on.
unfoldable pub same_part : ℕ → ℕ → ℕ → List ℕ → List ℕ → ℕ → ℕ → ℕ → Bool
same_part every first last ws ns place n zero = true
same_part every first last ws ns place n (suc k) =
    same_part every first last ws ns place n k
    && (nat_le n k || skips every first last k || slice_index ws k == slice_index ns ((place + k) % 2 ^ 64))

unfoldable pub same_below : List ℕ → List ℕ → ℕ → Bool
same_below a b zero = length a == length b
same_below a b (suc k) = same_below a b k && slice_index a k == slice_index b k

-- Two rows are as long, and the same.
unfoldable pub same_rows : List ℕ → List ℕ → Bool
same_rows a b = same_below a b (length a)

-- Numbers as text, set right and grouped by thousands.
use Rattle.std.specs.Prelude.{◌≡◌, refl, cond, Option, None, Some, List, [], ◌∷◌, ℕ, zero, suc, ◌+◌, ◌-◌, ◌/◌, ◌%◌, eqb, length, get_or, set, drop, replicate}
use Prim.Native.Char.{code}
use Prim.Native.String.{String, [] as []ˢ, ◌∷◌ as ◌∷ˢ◌}

-- the bytes of a quoted text
abbrev pub bytes : String → List ℕ
bytes []ˢ = []
bytes (c ∷ˢ s) = code c ∷ bytes s

-- Places count from the right; each fourth is a comma's. At a place: its byte, by what is left of the number, and what is left before it.
abbrev pub byte_of : ℕ → ℕ → ℕ
byte_of place rest =
    cond (eqb (place % 4) 3)
    (cond (eqb rest 0) 32 44)
    (cond (eqb rest 0) (cond (eqb place 0) 48 32) (48 + rest % 10))

abbrev pub rest_of : ℕ → ℕ → ℕ
rest_of place rest = cond (eqb (place % 4) 3) rest (rest / 10)

-- what is left of n before its last k places
unfoldable pub rest_after : ℕ → ℕ → ℕ
rest_after zero n = n
rest_after (suc k) n = rest_of k (rest_after k n)

-- 26 places, which hold every number of 64 bits; the last k of them are filled
unfoldable pub filled : ℕ → ℕ → List ℕ
filled zero n = replicate 26 32
filled (suc k) n = set (filled k n) (25 - k) (byte_of k (rest_after k n))

unfoldable pub grouped : ℕ → List ℕ
grouped n = filled 26 n

-- A number, or blanks in its place.
abbrev pub cell : Option ℕ → List ℕ
cell (Some n) = grouped n
cell None = replicate 26 32

-- In a column of so many places, at most 26: the last ones.
abbrev pub column : ℕ → Option ℕ → List ℕ
column width n = drop (26 - width) (cell n)

-- Bytes put in a line from a place on, one after the other.
unfoldable pub put_first : ℕ → ℕ → List ℕ → List ℕ → List ℕ
put_first zero place s line = line
put_first (suc k) place s line = set (put_first k place s line) (place + k) (get_or s k 0)

unfoldable pub put : ℕ → List ℕ → List ℕ → List ℕ
put place s line = put_first (length s) place s line

-- by computation
million : column 10 (Some 1234567) ≡ bytes " 1,234,567"
unfolding grouped filled rest_after
million = refl

nought : column 3 (Some 0) ≡ bytes "  0"
unfolding grouped filled rest_after
nought = refl

thousand : column 6 (Some 1000) ≡ bytes " 1,000"
unfolding grouped filled rest_after
thousand = refl

-- Places among the recorded numbers, and what stands there. A place wraps at 64 bits; past the end there are zeros. Definitions only.
use Rattle.std.specs.Bool.{then_some}
use Rattle.std.specs.Prelude.{Option, ℕ, ◌+◌, ◌%◌, ◌^◌, Bool, not, List, map, ◌==◌, slice_index}
use Rattle.std.specs.List.{range_with_len}
use Rattle.model.specs.declared.Hash.{Hash}

-- k places on
abbrev pub on : ℕ → ℕ → ℕ
on place k = (place + k) % 2 ^ 64

abbrev pub nth : List ℕ → ℕ → ℕ → ℕ
nth ns place k = slice_index ns (on place k)

-- four numbers are a hash
abbrev pub hash_from : List ℕ → ℕ → Hash
hash_from ns place = record { a = nth ns place 0; b = nth ns place 1; c = nth ns place 2; d = nth ns place 3 }

-- n numbers from a place on, each as what it is
module _ {A : Type 0} where
  unfoldable pub row_at : (ℕ → A) → ℕ → List ℕ → ℕ → List A
  row_at of n ns place = map (λ i. of (nth ns place i)) (range_with_len 0 n)

-- a height has 32 bits
abbrev pub low : ℕ → ℕ
low x = x % 4294967296

-- a number that says whether something is there
abbrev pub is_set : ℕ → Bool
is_set x = not (x == 0)

-- a number that may be missing, by the number before it
abbrev pub perhaps : List ℕ → ℕ → ℕ → Option ℕ
perhaps ns place k = then_some (is_set (nth ns place k)) (nth ns place (k + 1))

-- and a height
abbrev pub perhaps_height : List ℕ → ℕ → ℕ → Option ℕ
perhaps_height ns place k = then_some (is_set (nth ns place k)) (low (nth ns place (k + 1)))

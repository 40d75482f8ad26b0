-- An index over a list of hashes: which bucket a hash is in, and what the index says. Definitions only.
use Rattle.std.specs.Prelude.{◌≡◌, ℕ, zero, suc, ◌+◌, ◌-◌, ◌*◌, ◌%◌, ◌<◌, ◌≤◌, cond, List, length, ◌==◌, slice_index}
use Rattle.model.specs.Numbers.{lesser}
use Rattle.model.specs.Hash.{base, hash}
use Rattle.model.specs.declared.Hash.{Hash}

-- the hash at place i of a list of words
abbrev pub hash_at : List ℕ → ℕ → Hash
hash_at list i = hash (slice_index list (4 * i)) (slice_index list (4 * i + 1)) (slice_index list (4 * i + 2)) (slice_index list (4 * i + 3))

-- the bucket of a hash: the sum of its words, modulo the greatest prime below the number of buckets
unfoldable pub bucket : Hash → ℕ
bucket h = ((h.a + h.b) % base + (h.c + h.d) % base) % base % 1021

-- of the first n places of a list the last whose hash is in the bucket b, plus 1; 0 for none
unfoldable pub last : ℕ → List ℕ → ℕ → ℕ
last b list zero = 0
last b list (suc n) = cond (bucket (hash_at list n) == b) (suc n) (last b list n)

-- how many of n places have a link, in an index of so many words
unfoldable pub linked : ℕ → ℕ → ℕ
linked n size = lesser n (size - 1024)

-- the index has all its heads, and its places are numbers of 32 bits
abbrev pub Sized : List ℕ → Type 0
Sized index = (1024 ≤ length index) × (length index ≤ 4294967296)

-- an index of the first n hashes of a list
pub record Indexed (n : ℕ) (list index : List ℕ) : Type 0 where
  pub sized : Sized index
  pub heads : (b : ℕ) → b < 1024 → slice_index index b ≡ last b list (linked n (length index))
  pub links : (i : ℕ) → i < linked n (length index) → slice_index index (1024 + i) ≡ last (bucket (hash_at list i)) list i

-- the first n words are 0
abbrev pub Zeros : ℕ → List ℕ → Type 0
Zeros n l = (k : ℕ) → k < n → slice_index l k ≡ 0

-- an index of no hash, of whatever list
abbrev pub Empty : List ℕ → Type 0
Empty index = (list : List ℕ) → Indexed 0 list index

-- the first n hashes of two lists are the same
abbrev pub Alike : ℕ → List ℕ → List ℕ → Type 0
Alike n l m = (i : ℕ) → i < n → hash_at l i ≡ hash_at m i

-- What "bytes", "words" and "hashes" say of numbers in Request 01's sentences: each is small enough for what it stands for. Definitions only.
use Rattle.std.specs.Prelude.{ℕ, ◌<◌, List, [], ◌∷◌, get_or}
use Rattle.model.specs.declared.Hash.{Hash}
use Rattle.model.specs.Hash.{base}

-- every number of the list is below 256 (past the end `get_or` gives 0)
abbrev pub Bytes : List ℕ → Type 0
Bytes p = (i : ℕ) → get_or p i 0 < 256

-- every number of the list is below 2^64
abbrev pub Words : List ℕ → Type 0
Words ws = (i : ℕ) → get_or ws i 0 < base

-- every word of the hash is below 2^64
abbrev pub FourWords : Hash → Type 0
FourWords h = (h.a < base) × (h.b < base) × (h.c < base) × (h.d < base)

-- every word of every hash is
abbrev pub Hashes : List Hash → Type 0
Hashes [] = Unit {0}
Hashes (h ∷ hs) = FourWords h × Hashes hs

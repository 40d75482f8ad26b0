-- A hash of four words as one number, the first word the heaviest. Every comparison of hashes in the definitions is one of these numbers.
-- Definitions only.
use Rattle.std.specs.Prelude.{ℕ, ◌+◌, ◌*◌, Bool, true, false, ◌&&◌, List, [], ◌∷◌, eqb, ltb}
use Rattle.model.specs.declared.Hash.{Hash}

-- 2^64
abbrev pub base : ℕ
base = 18446744073709551616

-- one more word
unfoldable pub wide : ℕ → ℕ → ℕ
wide x u = x * base + u

-- SPECIFICATION 1.1: 32 bytes, ordered from the first byte
unfoldable pub key : Hash → ℕ
key h = wide (wide (wide h.a h.b) h.c) h.d

unfoldable pub same : Hash → Hash → Bool
same g h = eqb (key g) (key h)

unfoldable pub less : Hash → Hash → Bool
less g h = ltb (key g) (key h)

unfoldable pub same_hashes : List Hash → List Hash → Bool
same_hashes [] [] = true
same_hashes [] (h ∷ hs) = false
same_hashes (g ∷ gs) [] = false
same_hashes (g ∷ gs) (h ∷ hs) = same g h && same_hashes gs hs

-- the hash of four words
abbrev pub hash : ℕ → ℕ → ℕ → ℕ → Hash
hash a b c d = record { a = a; b = b; c = c; d = d }

-- the hashes in a list of words, four words each; what is left over is not read
unfoldable pub hashes_in : List ℕ → List Hash
hashes_in [] = []
hashes_in (a ∷ []) = []
hashes_in (a ∷ b ∷ []) = []
hashes_in (a ∷ b ∷ c ∷ []) = []
hashes_in (a ∷ b ∷ c ∷ d ∷ l) = hash a b c d ∷ hashes_in l

-- its four words
abbrev pub hash_words : Hash → List ℕ
hash_words h = h.a ∷ h.b ∷ h.c ∷ h.d ∷ []

unfoldable pub hashes_words : List Hash → List ℕ
hashes_words [] = []
hashes_words (h ∷ hs) = h.a ∷ h.b ∷ h.c ∷ h.d ∷ hashes_words hs

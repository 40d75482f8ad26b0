-- SPECIFICATION 15, request 01: the payload of a getdata message as the network spells it, written from hashes and read into them. Neither is defined by the
-- other. The count's form is the protocol's CompactSize, the type is BIP 144's. Bytes and words are numbers here, hashes as they come on the wire.
-- Definitions only.
use Rattle.std.specs.Prelude.{ℕ, zero, suc, ◌+◌, ◌*◌, ◌/◌, ◌%◌, Bool, true, cond, ◌&&◌, List, [], ◌∷◌, ◌++◌, eqb, leb, ltb, length, get_or, take, drop}
use Rattle.model.specs.declared.Hash.{Hash}
use Rattle.model.specs.Hash.{hash, hashes_words}
use Rattle.model.specs.Perform.{Answer, refused, says}

-- "At most 256 entries"
abbrev pub max_getdata : ℕ
max_getdata = 256

-- BIP 144's witness block: 0x40000002
abbrev pub msg_witness_block : ℕ
msg_witness_block = 1073741826

-- ---- writing: SPECIFICATION 15.1

-- a number in so many bytes, the low one first
unfoldable pub little_endian : ℕ → ℕ → List ℕ
little_endian zero x = []
little_endian (suc n) x = x % 256 ∷ little_endian n (x / 256)

-- and the high one first
unfoldable pub big_endian : ℕ → ℕ → List ℕ
big_endian zero x = []
big_endian (suc n) x = big_endian n (x / 256) ++ (x % 256 ∷ [])

-- a count below 65,536 as CompactSize, in its shortest form: below 253 one byte, else 253 (0xFD) and two bytes, the low one first
unfoldable pub compact_size : ℕ → List ℕ
compact_size n = cond (ltb n 253) (n ∷ []) (253 ∷ little_endian 2 n)

-- an entry: the type in four bytes, the low one first, and the hash's 32 bytes
unfoldable pub entry_bytes : Hash → List ℕ
entry_bytes h = little_endian 4 msg_witness_block ++ (big_endian 8 h.a ++ (big_endian 8 h.b ++ (big_endian 8 h.c ++ big_endian 8 h.d)))

-- the entries, in the list's order
unfoldable pub entries_bytes : List Hash → List ℕ
entries_bytes [] = []
entries_bytes (h ∷ hs) = entry_bytes h ++ entries_bytes hs

-- the payload that asks for these blocks
unfoldable pub payload : List Hash → List ℕ
payload hs = compact_size (length hs) ++ entries_bytes hs

-- ---- reading: SPECIFICATION 15.1 and 15.3

-- the number in some bytes, the low one first
unfoldable pub from_little_endian : List ℕ → ℕ
from_little_endian [] = 0
from_little_endian (b ∷ bs) = b + from_little_endian bs * 256

-- the number in some bytes, the high one first; x is that of the bytes before them
unfoldable pub from_big_endian : ℕ → List ℕ → ℕ
from_big_endian x [] = x
from_big_endian x (b ∷ bs) = from_big_endian (x * 256 + b) bs

-- a first byte of 253 (0xFD) says that the count stands in the two bytes after it
unfoldable pub in_two : List ℕ → Bool
in_two p = eqb (get_or p 0 0) 253

-- how many bytes the count takes
unfoldable pub count_width : List ℕ → ℕ
count_width p = cond (in_two p) 3 1

-- the count; of two bytes the low one comes first
unfoldable pub count_of : List ℕ → ℕ
count_of p = cond (in_two p) (from_little_endian (take 2 (drop 1 p))) (get_or p 0 0)

-- its form is the shortest: what one byte can say is not said in two, and 254 and 255, which begin still longer forms, say nothing here
unfoldable pub shortest : List ℕ → Bool
shortest p = cond (in_two p) (leb 253 (count_of p)) (ltb (get_or p 0 0) 253)

-- an entry's bytes: four of its type, 32 of its hash
abbrev pub entry_size : ℕ
entry_size = 36

-- the type, in an entry's first four bytes, the low one first
unfoldable pub type_of : List ℕ → ℕ
type_of e = from_little_endian (take 4 e)

-- the word in eight bytes from a place on, the high one first
unfoldable pub word_at : List ℕ → ℕ → ℕ
word_at e k = from_big_endian 0 (take 8 (drop k e))

-- the hash in the 32 bytes after the type
unfoldable pub entry_hash : List ℕ → Hash
entry_hash e = hash (word_at e 4) (word_at e 12) (word_at e 20) (word_at e 28)

-- so many entries: each is of that type
unfoldable pub all_blocks : ℕ → List ℕ → Bool
all_blocks zero es = true
all_blocks (suc n) es = eqb (type_of es) msg_witness_block && all_blocks n (drop entry_size es)

-- and their hashes
unfoldable pub entry_hashes : ℕ → List ℕ → List Hash
entry_hashes zero es = []
entry_hashes (suc n) es = entry_hash es ∷ entry_hashes n (drop entry_size es)

-- the bytes are a payload that is accepted: the count's form, at most 256 entries, no byte missing and none left over, every type
unfoldable pub is_getdata : List ℕ → Bool
is_getdata p =
    shortest p && (leb (count_of p) max_getdata && (eqb (length p) (count_width p + count_of p * entry_size) && all_blocks (count_of p) (drop (count_width p) p)))

-- the hashes that it names
unfoldable pub getdata_hashes : List ℕ → List Hash
getdata_hashes p = entry_hashes (count_of p) (drop (count_width p) p)

-- ---- the two calls: a refused one leaves what is lent as it was, an accepted one what is past the written part

-- the answer: how many were written, where nothing is refused
abbrev pub answered : ℕ → ℕ → Answer
answered zero n = says 0 (n ∷ [])
answered (suc r) n = refused (suc r)

-- what was lent to be written, after the call
abbrev pub put_in : ℕ → List ℕ → List ℕ → List ℕ
put_in zero new lent = new ++ drop (length new) lent
put_in (suc r) new lent = lent

-- SPECIFICATION 15.2, writing: 8, more than 256 hashes; 10, the lent bytes are too few
unfoldable pub write_refusal : List Hash → List ℕ → ℕ
write_refusal hs lent = cond (ltb max_getdata (length hs)) 8 (cond (ltb (length lent) (length (payload hs))) 10 0)

-- it answers the number of bytes
unfoldable pub write_answer : List Hash → List ℕ → Answer
write_answer hs lent = answered (write_refusal hs lent) (length (payload hs))

-- and leaves the payload in the first of them
unfoldable pub write_left : List Hash → List ℕ → List ℕ
write_left hs lent = put_in (write_refusal hs lent) (payload hs) lent

-- SPECIFICATION 15.3, reading: 11, no payload that is accepted; 10, the lent list is too short
unfoldable pub read_refusal : List ℕ → List ℕ → ℕ
read_refusal p lent = cond (is_getdata p) (cond (ltb (length lent) (length (hashes_words (getdata_hashes p)))) 10 0) 11

-- it answers the number of hashes
unfoldable pub read_answer : List ℕ → List ℕ → Answer
read_answer p lent = answered (read_refusal p lent) (length (getdata_hashes p))

-- and leaves their words, four each, in the first of the list
unfoldable pub read_left : List ℕ → List ℕ → List ℕ
read_left p lent = put_in (read_refusal p lent) (hashes_words (getdata_hashes p)) lent

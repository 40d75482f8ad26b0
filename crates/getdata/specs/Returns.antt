-- Request 01's own sentences. What is written and read is unchanged, what is read and written is its own bytes, and a payload is accepted exactly where some
-- list of hashes is written so. `Bytes`, `Words` and `Hashes` are in Below. Assumes nothing.
use Rattle.std.specs.Prelude.{ℕ, ◌+◌, ◌*◌, ◌≤◌, ◌≡◌, ◌↔◌, true, List, [], ◌∷◌, ◌++◌, length, take, drop}
use Rattle.std.proofs.Common.{arith, sym, ap, ◌∙◌, subst, length-append}
use Rattle.model.specs.declared.Hash.{Hash}
use Rattle.model.specs.Hash.{hashes_in, hashes_words}
use Rattle.model.specs.Perform.{says}
use Rattle.model.specs.Getdata.{max_getdata, compact_size, entries_bytes, payload, is_getdata, getdata_hashes, count_of, count_width, entry_hashes}
use Rattle.model.specs.Getdata.{write_answer, write_left, read_answer, read_left}
use Rattle.getdata.specs.Below.{Bytes, Words, Hashes}
use Rattle.getdata.specs.Bytes.{bytes_drop, length_entries, hashes_return, length_entry_hashes, entries_again, length_count, count_again}
use Rattle.getdata.specs.Bytes.{accepted_by, accepted_parts, entries_long, payload_counted, payload_accepted, hashes_few, hashes_are}
use Rattle.getdata.specs.Answers.{hashes_of, writes, reads, write_told, read_told}

-- The length of a payload: that of its count, and 36 bytes for each hash
pub payload_length : (hs : List Hash) → length (payload hs) ≡ length (compact_size (length hs)) + 36 * length hs
unfolding payload
payload_length hs = omega (arith, length-append (compact_size (length hs)) (entries_bytes hs), length_entries hs)

-- No payload of at most 256 hashes has more than 9,219 bytes
pub payload_longest : (hs : List Hash) → length hs ≤ max_getdata → length (payload hs) ≤ 9219
payload_longest hs h = omega (arith, payload_length hs, (length_count (length hs)).1)

-- A list of at most 256 hashes, written and read: the payload is accepted, and names the same list
pub list_returns : (hs : List Hash) → Hashes hs → length hs ≤ max_getdata → (is_getdata (payload hs) ≡ true) × (getdata_hashes (payload hs) ≡ hs)
unfolding getdata_hashes
list_returns hs f h =
    let q = payload_counted hs h in
    (accepted_by (payload hs) (payload_accepted hs h), (λ i. entry_hashes (q.count i) (q.rest i)) ∙ hashes_return hs f)

-- An accepted payload, read and written, is its own bytes
pub payload_returns : (p : List ℕ) → Bytes p → is_getdata p ≡ true → payload (getdata_hashes p) ≡ p
unfolding payload getdata_hashes
payload_returns p g e =
    let k = accepted_parts p e in
    let r : List ℕ = drop (count_width p) p in
    let n : length (entry_hashes (count_of p) r) ≡ count_of p = length_entry_hashes (count_of p) r in
    let m : entries_bytes (entry_hashes (count_of p) r) ≡ r = entries_again (count_of p) r (bytes_drop (count_width p) p g) (entries_long p k) k.blocks in
    (λ i. compact_size (n i) ++ m i) ∙ count_again p g k.form (omega (arith, k.long))

-- Bytes are accepted exactly where they are what some list of at most 256 hashes is written as
pub accepted_exactly : (p : List ℕ) → Bytes p → (is_getdata p ≡ true) ↔ ((hs : List Hash) × Hashes hs × (length hs ≤ max_getdata) × (payload hs ≡ p))
accepted_exactly p g = (
  (λ e. (getdata_hashes p, hashes_are p g (accepted_parts p e), hashes_few p (accepted_parts p e), payload_returns p g e)),
  (λ k. subst (λ (q : List ℕ). is_getdata q ≡ true) k.3 (list_returns k.0 k.1 k.2).0),
)

-- ---- the same of the two calls

-- What `write` has written for the words ws, its n bytes handed to `read` with a list that has room: `read` answers how many hashes they are, and leaves
-- their words at the list's beginning and the rest of the list as it was
pub written_read : (ws lent list : List ℕ) (n : ℕ) → Words ws → write_answer (hashes_in ws) lent ≡ says 0 (n ∷ []) → length (hashes_in ws) * 4 ≤ length list
    → (read_answer (take n (write_left (hashes_in ws) lent)) list ≡ says 0 (length (hashes_in ws) ∷ []))
    × (read_left (take n (write_left (hashes_in ws) lent)) list ≡ hashes_words (hashes_in ws) ++ drop (length (hashes_words (hashes_in ws))) list)
written_read ws lent list n f e room =
    let hs : List Hash = hashes_in ws in
    let told = write_told hs lent n e in
    let back = list_returns hs (hashes_of ws f) told.0 in
    reads (take n (write_left hs lent)) hs list (ap is_getdata told.1 ∙ back.0) (ap getdata_hashes told.1 ∙ back.1) room

-- What `read` has read from the bytes p, the words of its n hashes handed to `write` with at least as many bytes lent as p has: `write` answers
-- the length of p, and leaves p at the beginning and the rest as it was
pub read_written : (p list lent : List ℕ) (n : ℕ) → Bytes p → read_answer p list ≡ says 0 (n ∷ []) → length p ≤ length lent
    → (write_answer (hashes_in (take (4 * n) (read_left p list))) lent ≡ says 0 (length p ∷ []))
    × (write_left (hashes_in (take (4 * n) (read_left p list))) lent ≡ p ++ drop (length p) lent)
read_written p list lent n g e room =
    let told = read_told p list n e in
    let few = subst (λ (hs : List Hash). length hs ≤ max_getdata) (sym told.1) (hashes_few p (accepted_parts p told.0)) in
    writes (hashes_in (take (4 * n) (read_left p list))) p lent (ap payload told.1 ∙ payload_returns p g told.0) few room

-- The demo's lines as bytes: 80 and a line end.
use Rattle.std.specs.Prelude.{List, [], ◌∷◌, ℕ, ◌/◌, ◌%◌, set, replicate, Option, None, Some, Result, Ok, Err}
use Rattle.model.specs.declared.Refusal.{Refusal}
use Rattle.lines.specs.Cells.{column, put}
use Rattle.lines.specs.Words.{name, head_word, last_word, refused, entry_words, nth_entry}
use Rattle.lines.specs.declared.Said.{Said}
use Rattle.lines.specs.declared.Call.{Call}
use Rattle.lines.specs.declared.Made.{Made}
use Rattle.lines.specs.declared.After.{After}
use Rattle.lines.specs.declared.Entry.{Entry}

-- tenths of a second, and the name of the call
unfoldable pub begun : ℕ → Call → List ℕ
begun time call =
    put 8 (name call)
    (put 5 (46 ∷ [])
    (put 6 (column 1 (Some (time % 10)))
    (put 0 (column 5 (Some (time / 10))) (set (replicate 81 32) 80 10))))

-- with whom, and which blocks
unfoldable pub asked : Made → List ℕ → List ℕ
asked m line = put 39 (column 3 m.last) (put 36 (column 3 m.first) (put 33 (column 3 m.peer) line))

-- a head, a number or none, and a tail
unfoldable pub sentence : Said → List ℕ → List ℕ
sentence s line = put 54 (last_word s.tail) (put 51 (column 3 s.number) (put 43 (head_word s.head) line))

-- the answer; of a refused call the refusal's number, and why it is one
abbrev pub answered : Result Said Refusal → List ℕ → List ℕ
answered (Err r) line = sentence (refused r) line
answered (Ok s) line = sentence s line

-- the peer's share, where there is a peer
abbrev pub share_of : Option ℕ → ℕ → Option ℕ
share_of None share = None
share_of (Some peer) share = Some share

-- the window after the call
unfoldable pub left : Made → After → List ℕ → List ℕ
left m a line = put 70 (column 10 (Some a.bytes)) (put 67 (column 3 (Some a.pending)) (put 65 (column 2 (share_of m.peer a.share)) line))

unfoldable pub row : Made → Result Said Refusal → After → List ℕ
row m s a = left m a (answered s (asked m (begun m.time m.call)))

-- a line of the book: blocks and bytes
unfoldable pub entry_line : Entry → ℕ → ℕ → List ℕ
entry_line e blocks in_bytes =
    put 41 (column 12 (Some in_bytes)) (put 33 (column 8 (Some blocks)) (put 0 (entry_words e) (set (replicate 81 32) 53 10)))

-- the line at a place of the page
abbrev pub entry : ℕ → ℕ → ℕ → List ℕ
entry k blocks in_bytes = entry_line (nth_entry k) blocks in_bytes

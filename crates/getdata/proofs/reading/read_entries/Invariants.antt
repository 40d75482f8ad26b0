-- `getdata::reading::read_entries` meets its contract: at the loop's head i hashes are read. Assumes nothing.
use mathlib.Core.Path.{◌≡◌}
use mathlib.Core.List.{◌++◌}
use Prim.Native.Nat.{◌*◌, ◌-◌}
use lib.ListN.{take, drop}
use Rattle.model.specs.Hash.{hashes_words}
use Rattle.model.specs.Getdata.{entry_hashes}
use Rattle.getdata.proofs.reading.read_entries.Given as goal

abbrev pub invariant-loop-i : goal.invariant-loop-i
invariant-loop-i l =
    hashes_words (entry_hashes l.n l.entries) ≡ take (4 * l.i) l.hashes ++ hashes_words (entry_hashes (l.n - l.i) (drop (36 * l.i) l.entries))

-- `getdata::writing::put_entries` meets its contract: at the loop's head the first i entries are written, and those of the words from 4 * i on are left.
-- Assumes nothing.
use mathlib.Core.Path.{◌≡◌}
use mathlib.Core.List.{◌++◌}
use Prim.Native.Nat.{◌*◌}
use lib.ListN.{take, drop}
use Rattle.model.specs.Hash.{hashes_in}
use Rattle.model.specs.Getdata.{entries_bytes}
use Rattle.getdata.proofs.writing.put_entries.Given as goal

abbrev pub invariant-loop-i : goal.invariant-loop-i
invariant-loop-i l =
    entries_bytes (hashes_in l.hashes) ≡ take (36 * l.i) l.out ++ entries_bytes (hashes_in (drop (4 * l.i) l.hashes))

-- `getdata::reading::all_blocks` meets its contract: at the loop's head i entries are looked at. Assumes nothing.
use mathlib.Core.Path.{◌≡◌}
use Prim.Native.Nat.{◌*◌, ◌-◌}
use lib.ListN.{drop}
use Rattle.model.specs.Getdata.{all_blocks}
use Rattle.getdata.proofs.reading.all_blocks.Given as goal

abbrev pub invariant-loop-i : goal.invariant-loop-i
invariant-loop-i l = all_blocks l.n l.entries ≡ all_blocks (l.n - l.i) (drop (36 * l.i) l.entries)

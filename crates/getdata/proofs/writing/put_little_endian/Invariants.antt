-- `getdata::writing::put_little_endian` meets its contract: at the loop's head the bytes before are written, and the others are those of the rest. Assumes
-- nothing.
use mathlib.Core.Path.{◌≡◌}
use mathlib.Core.List.{◌++◌}
use Prim.Native.Nat.{◌-◌}
use lib.ListN.{length, take}
use Rattle.model.specs.Getdata.{little_endian}
use Rattle.getdata.proofs.writing.put_little_endian.Given as goal

abbrev pub invariant-loop-byte : goal.invariant-loop-byte
invariant-loop-byte l =
    little_endian (length l.initial.out) l.number ≡ take l.byte-index l.out ++ little_endian (length l.initial.out - l.byte-index) l.rest

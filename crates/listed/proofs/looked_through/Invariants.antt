-- `listed::looked_through` meets its contract: the hash is at no place before i. Assumes nothing.
use Rattle.std.proofs.Common.{◌≡◌, false, take}
use Rattle.model.specs.Lists.{any}
use Rattle.model.specs.Hash.{hashes_in, same}
use Rattle.listed.proofs.looked_through.Given as goal

abbrev pub invariant-loop-i : goal.invariant-loop-i
invariant-loop-i l = any (same l.h) (take l.i (hashes_in l.list)) ≡ false

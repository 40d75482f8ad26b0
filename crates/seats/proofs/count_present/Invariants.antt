-- `seats::count_present` meets its contract: at the loop's head `n` and the count from the word on are the count of all. Assumes nothing.
use mathlib.Core.Path.{◌≡◌}
use Prim.Native.Nat.{◌+◌, ◌≤◌}
use lib.ListN.{drop}
use Rattle.model.specs.Lists.{count}
use Rattle.model.specs.Numbers.{present}
use Rattle.seats.proofs.count_present.Given as goal

abbrev pub invariant-loop-word : goal.invariant-loop-word
invariant-loop-word l = (l.n ≤ l.word-index) × (l.n + count present (drop l.word-index l.col) ≡ count present l.col)

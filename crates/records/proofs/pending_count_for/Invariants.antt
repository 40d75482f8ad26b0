-- `records::pending_count_for` meets its contract: at the loop's head `n` and the count from the seat on are the count of all. Assumes nothing.
use mathlib.Core.Path.{◌≡◌}
use mathlib.Core.Bool.{Bool}
use mathlib.Core.List.{List}
use Prim.Native.Nat.{ℕ, ◌+◌, ◌-◌, ◌≤◌}
use lib.ListN.{take, drop}
use lib.Dec.{eqb}
use Rattle.model.specs.Lists.{count}
use Rattle.records.proofs.pending_count_for.Given as goal

-- the seats of the live records
abbrev pub S : ℕ → List ℕ → List ℕ
S m ws = take (1024 + m - 1024) (drop 1024 ws)

abbrev pub is : ℕ → ℕ → Bool
is o = λ s. eqb s o

abbrev pub invariant-loop-seat : goal.invariant-loop-seat
invariant-loop-seat l = (l.n ≤ l.seat-index) × (l.n + count (is l.owner) (drop l.seat-index (S l.count l.words)) ≡ count (is l.owner) (S l.count l.words))

-- `recorded::stream::row` meets its contract. Assumes nothing.
use Rattle.std.proofs.Common.{◌≡◌, ℕ, ◌<◌, length, get_or}
use Rattle.recorded.specs.Stream.{nth}
use Rattle.recorded.proofs.stream.row.Given as goal

abbrev pub invariant-loop-i : goal.invariant-loop-i
invariant-loop-i g l = record {
  long : length l.x-items ≡ g.row.N;
  read : (k : ℕ) → k < l.i → get_or l.x-items k (g.T.Number.of 0) ≡ g.T.Number.of (nth l.from.numbers.now l.from.at k);
}

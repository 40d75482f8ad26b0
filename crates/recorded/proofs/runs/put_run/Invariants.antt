-- `recorded::runs::put_run` meets its contract. Assumes nothing.
use Rattle.std.proofs.Common.{ℕ, List, get_or}
use Rattle.recorded.specs.Stream.{nth}
use Rattle.recorded.specs.Records.{word_after}
use Rattle.recorded.proofs.Turns.{Upto}
use Rattle.recorded.proofs.runs.put_run.Given as goal

abbrev pub new : List ℕ → ℕ → ℕ → ℕ → ℕ
new ns place = word_after ns place (get_or ns place 0) (nth ns place 1)

abbrev pub invariant-loop-i : goal.invariant-loop-i
invariant-loop-i l = Upto (new l.run.numbers.now l.run.at) l.initial.words l.i l.words

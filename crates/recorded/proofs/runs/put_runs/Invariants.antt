-- `recorded::runs::put_runs` meets its contract: at the loop's head the runs that are left are still to be put. Assumes nothing.
use Rattle.std.proofs.Common.{◌≡◌, ◌-◌}
use Rattle.recorded.specs.Records.{runs_put}
use Rattle.recorded.proofs.runs.put_runs.Given as goal

abbrev pub invariant-loop : goal.invariant-loop
invariant-loop l = runs_put 4096 l.numbers l.from l.end l.initial.words ≡ runs_put (4096 - l.counter) l.numbers l.at l.end l.words

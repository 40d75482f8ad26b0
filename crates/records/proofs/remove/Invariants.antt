-- `records::remove` meets its contract: at the loop's head the columns below k are done. Assumes nothing.
use Rattle.laws.specs.Rows.{Upto}
use Rattle.laws.specs.Tables.{removed_col}
use Rattle.records.proofs.remove.Given as goal

abbrev pub invariant-loop-k : goal.invariant-loop-k
invariant-loop-k l = Upto (removed_col l.at) l.k l.initial.words l.words

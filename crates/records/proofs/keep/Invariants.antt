-- `records::keep` meets its contract: at the loop's head the columns below k are done. Assumes nothing.
use Rattle.laws.specs.Rows.{Upto}
use Rattle.laws.specs.Tables.{kept_col}
use Rattle.records.proofs.keep.Given as goal

abbrev pub invariant-loop-k : goal.invariant-loop-k
invariant-loop-k l = Upto (kept_col l.marks) l.k l.initial.words l.words

-- `records::clear` meets its contract: at the loop's head the columns below k are done. Assumes nothing.
use Rattle.laws.specs.Rows.{Upto}
use Rattle.laws.specs.Tables.{kept_col}
use Rattle.records.specs.Cleared.{all_marked}
use Rattle.records.proofs.clear.Given as goal

abbrev pub invariant-loop-k : goal.invariant-loop-k
invariant-loop-k l = Upto (kept_col all_marked) l.k l.initial.words l.words

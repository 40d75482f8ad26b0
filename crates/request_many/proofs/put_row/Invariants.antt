-- `request_many::put_row` meets its contract: at the loop's head the columns below k are done. Assumes nothing.
use Rattle.laws.specs.Rows.{Upto}
use Rattle.request_many.specs.Fill.{set_col}
use Rattle.request_many.proofs.put_row.Given as goal

abbrev pub invariant-loop-k : goal.invariant-loop-k
invariant-loop-k l = Upto (set_col l.at l.e) l.k l.initial.words l.words

-- `records::insert` meets its contract. Assumes nothing.
use Rattle.laws.specs.Tables.{put_col}
use Rattle.laws.specs.Rows.{Upto}
use Rattle.records.proofs.insert.Given as goal

abbrev pub invariant-loop-k : goal.invariant-loop-k
invariant-loop-k l = Upto (put_col l.at l.e) l.k l.initial.words l.words

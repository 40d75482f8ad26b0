-- `probe_confirm::given_hashes` meets its contract. Assumes nothing.
use Rattle.model.specs.Hash.{hashes_in}
use Rattle.probe_hashes.specs.Rows.{Filled}
use Rattle.probe_confirm.proofs.given_hashes.Given as goal

abbrev pub invariant-loop-i : goal.invariant-loop-i
invariant-loop-i l = Filled l.i (hashes_in l.given) l.rows

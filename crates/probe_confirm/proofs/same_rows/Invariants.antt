-- `probe_confirm::same_rows` meets its contract. Assumes nothing.
use mathlib.Core.Path.{◌≡◌}
use Rattle.model.specs.Hash.{same_hashes}
use Rattle.plans.specs.Rows.{rows_hashes}
use Rattle.probe_confirm.specs.Confirms.{same_from}
use Rattle.probe_confirm.proofs.same_rows.Given as goal

abbrev pub invariant-loop-i : goal.invariant-loop-i
invariant-loop-i l = same_hashes (rows_hashes 8 l.a) (rows_hashes 8 l.b) ≡ same_from l.a l.b l.i

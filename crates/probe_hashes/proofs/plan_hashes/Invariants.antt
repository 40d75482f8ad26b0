-- `probe_hashes::plan_hashes` meets its contract. Assumes nothing.
use lib.ListN.{take}
use Rattle.model.specs.Layout.{window_of}
use Rattle.prefix_probe.specs.Walks.{hashes_at}
use Rattle.probe_hashes.specs.Rows.{Filled}
use Rattle.probe_hashes.proofs.plan_hashes.Given as goal

abbrev pub invariant-loop-i : goal.invariant-loop-i
invariant-loop-i l = Filled l.i (hashes_at (window_of l.words).queue.pending (take l.n l.places)) l.rows

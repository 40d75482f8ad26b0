-- `batch::oldest_left` meets its contract: at the loop's head the table is that of the records from i on. Assumes nothing.
use mathlib.Core.Path.{◌≡◌}
use lib.ListN.{length, drop}
use Rattle.model.specs.Layout.{window_of}
use Rattle.batch.specs.Resets.{Oldests}
use Rattle.batch.proofs.oldest_left.Given as goal

abbrev pub invariant-loop-i : goal.invariant-loop-i
invariant-loop-i l = (length l.left ≡ 256) × Oldests l.left (drop l.i (window_of l.words).queue.pending)

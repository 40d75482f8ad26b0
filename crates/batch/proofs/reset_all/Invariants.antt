-- `batch::reset_all` meets its contract: at the loop's head the first i are reset. Assumes nothing.
use mathlib.Core.Path.{◌≡◌}
use lib.ListN.{length}
use Rattle.model.specs.LettingGo.{resets}
use Rattle.model.specs.Layout.{decode, window_of}
use Rattle.report_words.specs.Report.{releases_of}
use Rattle.batch.specs.Resets.{seats_of}
use Rattle.batch.proofs.reset_all.Given as goal

abbrev pub invariant-loop-i : goal.invariant-loop-i
invariant-loop-i l = (length l.words ≡ length l.initial.words) × (decode l.words ≡ seats_of (resets l.clock (releases_of l.i l.gone) (window_of l.initial.words).queue) (decode l.initial.words))

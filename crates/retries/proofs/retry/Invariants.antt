-- `retries::retry` meets its contract: at the loop's head what is taken of the first i, and what the others come to, are all. Assumes nothing.
use Rattle.model.specs.Layout.{window_of}
use Rattle.model.specs.Planning.{swept_asks}
use Rattle.report_words.specs.Report.{releases_of}
use Rattle.retries.specs.Retries.{lent_for, Going}
use Rattle.retries.proofs.retry.Given as goal

abbrev pub invariant-loop-i : goal.invariant-loop-i
invariant-loop-i l =
    Going (lent_for l.staged.hashes.now l.refused.hashes.now l.floor) (window_of l.words) (swept_asks (releases_of l.n l.gone)) l.batch l.bytes l.initial.hashes l.initial.heights l.initial.index l.hashes l.heights l.index l.count l.left l.low l.i

-- `request_calls::none_pending` meets its contract. Assumes nothing.
use mathlib.Core.Path.{◌≡◌}
use lib.ListN.{drop}
use Rattle.model.specs.Calls.{asks_in}
use Rattle.model.specs.Layout.{window_of}
use Rattle.request_calls.specs.Listed.{none_pending}
use Rattle.request_calls.proofs.none_pending.Given as goal

abbrev pub invariant-loop-i : goal.invariant-loop-i
invariant-loop-i l = none_pending (asks_in l.hashes l.heights) (window_of l.words).queue.pending ≡ none_pending (drop l.i (asks_in l.hashes l.heights)) (window_of l.words).queue.pending

-- `requests::put_all` meets its contract. Assumes nothing.
use mathlib.Core.Path.{◌≡◌}
use lib.ListN.{length, drop}
use Rattle.model.specs.Calls.{asks_in}
use Rattle.model.specs.Layout.{window_of}
use Rattle.laws.specs.Whole.{Whole}
use Rattle.requests.specs.Puts.{Putting}
use Rattle.requests.proofs.put_all.Given as goal

abbrev pub invariant-loop-i : goal.invariant-loop-i
invariant-loop-i l = Whole l.words × (Putting (asks_in l.hashes l.heights) l.owner l.clock (window_of l.initial.words) (drop l.i (asks_in l.hashes l.heights)) (window_of l.words) × (length l.words ≡ length l.initial.words))

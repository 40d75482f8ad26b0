-- `request_calls::listed_once` meets its contract. Assumes nothing.
use mathlib.Core.Path.{◌≡◌}
use lib.ListN.{drop}
use Rattle.model.specs.Calls.{asks_in}
use Rattle.model.specs.Refusals.{listed_once}
use Rattle.request_calls.proofs.listed_once.Given as goal

abbrev pub invariant-loop-i : goal.invariant-loop-i
invariant-loop-i l = listed_once (asks_in l.hashes l.heights) ≡ listed_once (drop l.i (asks_in l.hashes l.heights))

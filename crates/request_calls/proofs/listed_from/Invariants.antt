-- `request_calls::listed_from` meets its contract. Assumes nothing.
use mathlib.Core.Path.{◌≡◌}
use lib.ListN.{drop}
use Rattle.model.specs.Calls.{asks_in}
use Rattle.request_calls.specs.Listed.{listed}
use Rattle.request_calls.proofs.listed_from.Given as goal

abbrev pub invariant-loop-i : goal.invariant-loop-i
invariant-loop-i l = listed l.h (drop l.from (asks_in l.hashes l.heights)) ≡ listed l.h (drop l.i (asks_in l.hashes l.heights))

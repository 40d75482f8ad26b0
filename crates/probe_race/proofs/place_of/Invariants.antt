-- `probe_race::place_of` meets its contract: none of those before i is the hash. Assumes nothing.
use mathlib.Core.Path.{◌≡◌}
use Prim.Native.Nat.{◌+◌}
use lib.ListN.{drop}
use Rattle.model.specs.Races.{place_of}
use Rattle.model.specs.Layout.{window_of}
use Rattle.probe_race.proofs.place_of.Given as goal

abbrev pub invariant-loop-i : goal.invariant-loop-i
invariant-loop-i l = place_of l.h (window_of l.words).races.planned ≡ l.i + place_of l.h (drop l.i (window_of l.words).races.planned)

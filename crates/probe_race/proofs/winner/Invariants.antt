-- `probe_race::winner` meets its contract: none of the seats before s has won. Assumes nothing.
use mathlib.Core.Path.{◌≡◌}
use lib.ListN.{drop}
use Rattle.model.specs.Races.{winner}
use Rattle.model.specs.Layout.{window_of}
use Rattle.probe_race.proofs.winner.Given as goal

abbrev pub invariant-loop-seat : goal.invariant-loop-seat
invariant-loop-seat l = winner 0 (window_of l.words).races.racers ≡ winner l.seat (drop l.seat (window_of l.words).races.racers)

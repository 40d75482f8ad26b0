-- `probe_race::race_flags` meets its contract: the seats before s are flagged. Assumes nothing.
use Rattle.model.specs.Layout.{window_of}
use Rattle.probe_race.specs.Scans.{Flags}
use Rattle.probe_race.proofs.race_flags.Given as goal

abbrev pub invariant-loop-s : goal.invariant-loop-s
invariant-loop-s l = Flags l.win (window_of l.words).races.racers l.s l.flags

-- What can be written: a time that is kept is a clock, so that t + 1 is a word. Definitions only.
use Rattle.std.specs.Prelude.{◌≤◌, None, Some, Option}
use Rattle.model.specs.Numbers.{max_clock}
use Rattle.model.specs.declared.StallEpisode.{StallEpisode}
use Rattle.model.specs.declared.StuckFrontier.{StuckFrontier}
use Rattle.model.specs.declared.ColdFront.{ColdFront}
use Rattle.model.specs.declared.ColdFront.TheVariants.{Idle, Waiting, Racing}
use Rattle.model.specs.declared.PrefixProbe.{PrefixProbe}

abbrev pub stall_fits : Option StallEpisode → Type 0
stall_fits None = Unit
stall_fits (Some s) = s.since ≤ max_clock

abbrev pub stuck_fits : Option StuckFrontier → Type 0
stuck_fits None = Unit
stuck_fits (Some s) = s.since ≤ max_clock

abbrev pub cold_fits : ColdFront → Type 0
cold_fits Idle = Unit
cold_fits (Waiting owner h since) = since ≤ max_clock
cold_fits (Racing owner alternate h) = Unit

abbrev pub probe_fits : Option PrefixProbe → Type 0
probe_fits None = Unit
probe_fits (Some p) = p.started ≤ max_clock

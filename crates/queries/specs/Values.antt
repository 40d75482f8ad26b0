-- What a query asks of an episode. Definitions only.
use Rattle.std.specs.Prelude.{◌≤◌, None, Some, Option}
use Rattle.model.specs.Numbers.{max_seat}
use Rattle.model.specs.declared.StallEpisode.{StallEpisode}

-- its owner is a seat
abbrev pub seated : Option StallEpisode → Type 0
seated None = Unit {0}
seated (Some s) = s.owner ≤ max_seat

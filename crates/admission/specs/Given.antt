-- What a call is given that not every call has: a report, by its length, and a clock. Definitions only.
use Rattle.std.specs.Prelude.{ℕ, Bool, true, false, Option, None, Some}
use Rattle.model.specs.Refusals.{Moment, timeless, at}

abbrev pub has_report : Option ℕ → Bool
has_report None = false
has_report (Some room) = true

abbrev pub room_of : Option ℕ → ℕ
room_of None = 0
room_of (Some room) = room

abbrev pub moment_at : Option ℕ → Moment
moment_at None = timeless
moment_at (Some clock) = at clock

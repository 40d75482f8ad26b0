-- The owner of a sound window's episode is a seat. Assumes nothing.
use Rattle.std.specs.Prelude.{ℕ, None, Some, Option}
use Rattle.model.specs.Window.{Window}
use Rattle.model.specs.declared.StallEpisode.{StallEpisode}
use Rattle.laws.specs.Sound.{Sound, SoundStall}
use Rattle.queries.specs.Values.{seated}

seat_of : (c : ℕ) (s : Option StallEpisode) → SoundStall c s → seated s
seat_of c None h = tt
seat_of c (Some s) h = h.0

pub staller_seated : {c : ℕ} {w : Window} → Sound c w → seated w.watch.stall
staller_seated {c} {w} h = seat_of c w.watch.stall h.watch.stall

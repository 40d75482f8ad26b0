-- `pace::decayed` meets its contract. Assumes nothing.
use Rattle.model.specs.Pace.{decayed}
use Rattle.pace.proofs.decayed.Goals as goal

pub returns : goal.returns
unfolding decayed
returns c = c.greater.ensures

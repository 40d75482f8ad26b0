-- `rules::next_mean` meets its contract. Assumes nothing.
use Rattle.model.specs.Calls.{next_mean}
use Rattle.rules.proofs.next_mean.Goals as goal

pub returns : goal.returns
unfolding next_mean
returns c = c.greater.ensures

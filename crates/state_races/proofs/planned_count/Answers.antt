-- `state_races::planned_count` meets its contract. Assumes nothing.
use mathlib.Core.Path.{◌∙◌}
use Rattle.state_races.specs.Hedges.{planned_count}
use Rattle.state_races.proofs.planned_count.Goals as goal

pub returns : goal.returns
returns c = c.word_of.ensures ∙ planned_count c.args.words.now c.requires

-- `state_races::hedged_count` meets its contract. Assumes nothing.
use mathlib.Core.Path.{◌∙◌}
use Rattle.state_races.specs.Hedges.{hedged_count}
use Rattle.state_races.proofs.hedged_count.Goals as goal

pub returns : goal.returns
returns c = c.word_of.ensures ∙ hedged_count c.args.words.now c.requires

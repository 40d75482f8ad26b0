-- `queries::is_downloading` meets its contract. Assumes nothing.
use mathlib.Core.Path.{ap, ◌∙◌}
use Rattle.model.specs.Numbers.{present}
use Rattle.model.specs.Seats.{is_downloading}
use Rattle.queries.proofs.is_downloading.Goals as goal

pub returns : goal.returns
unfolding is_downloading
returns c = c.present.ensures ∙ ap present c.start_of.ensures

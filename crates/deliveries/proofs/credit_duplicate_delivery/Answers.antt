-- `deliveries::credit_duplicate_delivery` meets its contract. Assumes nothing.
use mathlib.Core.Path.{ap, ◌∙◌}
use Rattle.model.specs.Calls.{unless_observed, credit_duplicate_delivery}
use Rattle.model.specs.Layout.{window_of}
use Rattle.model.specs.Window.{with_observation}
use Rattle.rules.specs.Rows.{by_value}
use Rattle.deliveries.proofs.credit_duplicate_delivery.Goals as goal

pub returns : goal.returns
unfolding credit_duplicate_delivery
returns c =
    let a = c.args in
    by_value (λ x. with_observation x (window_of a.words.now)) (c.unless_observed-x.ensures ∙ ap (unless_observed a.h a.source) c.get_observation-o.ensures) c.set_observation.ensures

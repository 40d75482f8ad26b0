-- `deliveries::rejected_from` meets its contract. Assumes nothing.
use mathlib.Core.Path.{sym, subst, ap, ◌∙◌}
use Rattle.model.specs.Calls.{unless_front, credit_duplicate_delivery}
use Rattle.model.specs.Layout.{window_of}
use Rattle.model.specs.Window.{with_cold}
use Rattle.states.specs.Fits.{cold_fits}
use Rattle.rules.specs.Rows.{then, by_value}
use Rattle.deliveries.specs.Steps.{front_writes}
use Rattle.deliveries.proofs.rejected_from.Goals as goal

pub set_cold-requires : goal.set_cold-requires
set_cold-requires c =
    let a = c.args in
    let x = (window_of a.words.now).races.cold in
    (c.credit_duplicate_delivery.ensures.whole, subst cold_fits (sym (c.unless_front-x.ensures ∙ ap (unless_front a.h a.source) c.get_cold-c.ensures)) (front_writes a.h a.source x c.requires.1))

pub returns : goal.returns
returns c =
    let a = c.args in
    let w = window_of a.words.now in
    then (λ v. with_cold (unless_front a.h a.source w.races.cold) v) c.credit_duplicate_delivery.ensures
    (by_value (λ x. with_cold x (window_of c.credit_duplicate_delivery.new.words)) (c.unless_front-x.ensures ∙ ap (unless_front a.h a.source) c.get_cold-c.ensures) c.set_cold.ensures)

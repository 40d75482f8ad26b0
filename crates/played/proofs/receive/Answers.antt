-- `played::receive` meets its contract. Assumes nothing.
use mathlib.Core.Path.{◌∙◌, ap, refl}
use Rattle.played.specs.Steps.{receiving, spoken}
use Rattle.played.specs.Told.{plays_letting, received_told}
use Rattle.played.proofs.receive.Goals as goal

pub returns : goal.returns
returns c =
    let l = c.mark_received_from-l in
    plays_letting (receiving c.args.s) c.args.b _ _ _ _ _ _ _ l.ensures (ap spoken c.received.ensures ∙ received_told l.result.answer l.result.gone)
    c.let_go.ensures refl

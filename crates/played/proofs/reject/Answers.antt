-- `played::reject` meets its contract. Assumes nothing.
use mathlib.Core.Path.{◌∙◌, ap, refl}
use Rattle.played.specs.Steps.{rejecting, spoken}
use Rattle.played.specs.Told.{plays_letting, rejected_told}
use Rattle.played.proofs.reject.Goals as goal

pub returns : goal.returns
returns c =
    let l = c.reject_delivery-l in
    plays_letting (rejecting c.args.s) c.args.b _ _ _ _ _ _ _ l.ensures (ap spoken c.rejected.ensures ∙ rejected_told l.result.answer l.result.gone)
    c.let_go.ensures refl

-- `batch::sooner_stored` meets its contract. Assumes nothing.
use mathlib.Core.Path.{◌∙◌, sym}
use Rattle.batch.specs.Resets.{sooner_some}
use Rattle.batch.proofs.sooner_stored.Goals as goal

pub returns : goal.returns
returns c = c.lesser.ensures ∙ sym (sooner_some c.args.t c.args.u c.if-u-eq0.false)

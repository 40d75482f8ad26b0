-- `lend::unfilled` meets its contract: 256 times what `blank` makes.
use mathlib.Core.Path.{ap}
use lib.ListN.{replicate}
use Rattle.model.specs.declared.Release.{Release}
use Rattle.lend.specs.Blank.{none_filled}
use Rattle.lend.proofs.unfilled.Goals as goal

pub returns : goal.returns
unfolding none_filled
returns c = ap (λ (r : Release). replicate 256 r) c.blank-r.ensures

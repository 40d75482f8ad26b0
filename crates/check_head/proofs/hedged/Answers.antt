-- `check_head::hedged` meets its contract: by the count. Assumes nothing.
use mathlib.Core.Path.{◌∙◌}
use Rattle.facts.specs.Head.{hedged_many, hedged_few}
use Rattle.check_head.proofs.hedged.Goals as goal

pub returns-then-n-gt-HEDGES : goal.returns-then-n-gt-HEDGES
returns-then-n-gt-HEDGES c = hedged_many _ _ c.to_usize-n.ensures c.if-n-gt-HEDGES.true

pub returns : goal.returns
returns c = c.any_bits.ensures ∙ hedged_few _ _ c.to_usize-n.ensures c.if-n-gt-HEDGES.false

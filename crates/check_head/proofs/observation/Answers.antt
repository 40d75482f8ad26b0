-- `check_head::observation` meets its contract: by its first word. Assumes nothing.
use mathlib.Core.Path.{◌∙◌}
use Rattle.facts.specs.Head.{observation_none, observation_some}
use Rattle.check_head.proofs.observation.Goals as goal

pub returns-then-tag-eq0 : goal.returns-then-tag-eq0
returns-then-tag-eq0 c = c.any_bits.ensures ∙ observation_none _ c.if-tag-eq0.true

pub returns : goal.returns
returns c = observation_some _ c.if-tag-eq0.false

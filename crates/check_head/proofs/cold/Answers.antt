-- `check_head::cold` meets its contract: by its first word. Assumes nothing.
use mathlib.Core.Path.{◌∙◌}
use Rattle.facts.specs.Head.{waiting_row, racing_row, cold_none, cold_waits, cold_races}
use Rattle.facts.specs.Flags.{fold}
use Rattle.check_head.proofs.cold.Goals as goal

pub returns-then-tag-eq0 : goal.returns-then-tag-eq0
returns-then-tag-eq0 c = c.any_bits.ensures ∙ cold_none _ c.if-tag-eq0.true

pub returns-then-tag-eq1 : goal.returns-then-tag-eq1
unfolding fold waiting_row
returns-then-tag-eq1 c = cold_waits _ c.if-tag-eq1.true

pub returns : goal.returns
unfolding fold racing_row
returns c = cold_races _ c.if-tag-eq0.false c.if-tag-eq1.false

-- `probe_race::race_on` meets its contract. Assumes nothing.
use mathlib.Core.Path.{sym, ◌∙◌}
use Rattle.probe_race.proofs.race_on.Goals as goal

pub returns-then-all_four : goal.returns-then-all_four
returns-then-all_four c = rw (sym c.all_four.ensures ∙ c.if-all_four.true) c.clear_probe.ensures

pub returns : goal.returns
returns c = rw (sym c.all_four.ensures ∙ c.if-all_four.false) c.set_probe.ensures

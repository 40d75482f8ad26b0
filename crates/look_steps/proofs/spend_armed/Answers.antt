-- `look_steps::spend_armed` meets its contract. Assumes nothing.
use mathlib.Core.Path.{refl, sym, ◌∙◌}
use Rattle.look_steps.proofs.spend_armed.Goals as goal

pub returns-then-still_late : goal.returns-then-still_late
returns-then-still_late c = rw (sym c.still_late.ensures ∙ c.if-still_late.true) c.blame_late.ensures

pub returns : goal.returns
returns c = rw (sym c.still_late.ensures ∙ c.if-still_late.false) (record { left = c.set_observation.ensures; told = refl })

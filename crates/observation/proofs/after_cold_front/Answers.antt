-- `observation::after_cold_front` meets its contract. Assumes nothing.
use mathlib.Core.Path.{refl, sym, ◌∙◌}
use Rattle.model.specs.Layout.{window_of}
use Rattle.laws.specs.LooksKept.{stall_steady}
use Rattle.look_steps.specs.Steps.{sound_in}
use Rattle.observation.specs.Look.{late_sees}
use Rattle.observation.proofs.after_cold_front.Goals as goal

pub advance_pending_timeout-late-requires : goal.advance_pending_timeout-late-requires
advance_pending_timeout-late-requires c =
    let start = c in
    let a = start.args in
    let s = c.advance_stall-staller.ensures in
    (s.left.whole, sound_in (stall_steady a.clock a.next a.staged a.highest (window_of a.words.now) start.requires.1).sound s.left)

pub returns-in_default : goal.returns-in_default
returns-in_default c = λ h e.
    late_sees c.args.clock h c.advance_stall-staller.ensures c.in_default.is c.advance_pending_timeout-late.ensures e c.timeout_answer.ensures

pub returns : goal.returns
returns c = λ h e. let s = c.advance_stall-staller.ensures in rw (sym s.told ∙ c.in-Some.is) (record { left = s.left; told = refl })

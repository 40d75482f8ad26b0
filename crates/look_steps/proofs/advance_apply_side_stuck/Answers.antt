-- `look_steps::advance_apply_side_stuck` meets its contract. Assumes nothing.
use Rattle.std.specs.Prelude.{Option}
use mathlib.Core.Path.{sym, ap, subst}
use Rattle.model.specs.Layout.{window_of}
use Rattle.model.specs.Observation.{advance_apply_side_stuck}
use Rattle.model.specs.Window.{with_stuck}
use Rattle.model.specs.declared.Settings.{Settings}
use Rattle.model.specs.declared.StuckFrontier.{StuckFrontier}
use Rattle.laws.specs.LooksKept.{stuck_sound}
use Rattle.laws.specs.Whole.{Holds}
use Rattle.states.specs.Fits.{stuck_fits}
use Rattle.watch.specs.declared.Stepped.{Stepped}
use Rattle.look_steps.specs.Steps.{received_le, stuck_writes}
use Rattle.look_steps.proofs.advance_apply_side_stuck.Goals as goal

pub apply_side_stuck-step-requires : goal.apply_side_stuck-step-requires
apply_side_stuck-step-requires c = rw c.get_settings-b.ensures (received_le _ c.requires.1.settings)

pub set_stuck-requires : goal.set_stuck-requires
set_stuck-requires c =
    let start = c in
    let a = start.args in
    let w = window_of a.words.now in
    let e = c.apply_side_stuck-step.ensures w (sym c.get_stuck-stuck.ensures) (ap (λ (b : Settings). b.received_timeout) (sym c.get_settings-b.ensures)) in (
      start.requires.0,
      subst stuck_fits (ap (λ (x : Stepped). x.stuck) (sym e))
          (stuck_writes a.clock (advance_apply_side_stuck a.next a.frontier a.busy a.clock w).stuck start.requires.1.clock (stuck_sound a.clock a.next a.frontier a.busy w start.requires.2 start.requires.1.watch.stuck)),
    )

pub returns : goal.returns
returns c =
    let w = window_of c.args.words.now in
    let e = c.apply_side_stuck-step.ensures w (sym c.get_stuck-stuck.ensures) (ap (λ (b : Settings). b.received_timeout) (sym c.get_settings-b.ensures)) in
    (subst (λ (s : Option StuckFrontier). Holds (with_stuck s w) c.set_stuck.new.words) (ap (λ (x : Stepped). x.stuck) e) c.set_stuck.ensures, ap (λ (x : Stepped). x.answer) e)

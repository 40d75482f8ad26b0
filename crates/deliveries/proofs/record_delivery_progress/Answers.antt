-- `deliveries::record_delivery_progress` meets its contract. Assumes nothing.
use mathlib.Core.Path.{sym, subst, ap, ◌∙◌}
use native.Mathlib.Omega.{arith}
use Rattle.model.specs.Calls.{unless_stalled, record_delivery_progress}
use Rattle.model.specs.Pace.{front_recorded}
use Rattle.model.specs.Layout.{window_of}
use Rattle.model.specs.Window.{with_stall, with_pace}
use Rattle.model.specs.declared.Pace.{Pace}
use Rattle.states.specs.Fits.{stall_fits}
use Rattle.rules.specs.Rows.{then, by_value}
use Rattle.deliveries.specs.Steps.{stall_writes, stalled_writes}
use Rattle.deliveries.proofs.record_delivery_progress.Goals as goal

pub lend_at_front-q-requires : goal.lend_at_front-q-requires
lend_at_front-q-requires c =
    let g = c.requires.1 in
    (g.clock, omega (arith, ap (λ (p : Pace). p.mean) c.get_pace-p.ensures, g.pace.mean), omega (arith, ap (λ (p : Pace). p.wait) c.get_pace-p.ensures, g.pace.wait))

pub set_stall-requires : goal.set_stall-requires
set_stall-requires c =
    let a = c.args in
    let g = c.requires.1 in
    let s = (window_of a.words.now).watch.stall in
    (c.requires.0, subst stall_fits (sym (c.unless_stalled-x.ensures ∙ ap (unless_stalled a.h a.source) c.get_stall-s.ensures)) (stalled_writes a.h a.source s (stall_writes a.clock s g.clock g.watch.stall)))

pub returns-then-front : goal.returns-then-front
unfolding record_delivery_progress
returns-then-front c =
    let a = c.args in
    let w = window_of a.words.now in
    let calm = by_value (λ x. with_stall x w) (c.unless_stalled-x.ensures ∙ ap (unless_stalled a.h a.source) c.get_stall-s.ensures) c.set_stall.ensures in
    let paced = c.lend_at_front-q.ensures ∙ (λ i. front_recorded (c.get_settings-b.ensures i) a.clock (c.get_pace-p.ensures i)) in
    rw (sym c.was_front-front.ensures ∙ c.if-front.true) (then (λ v. with_pace (front_recorded w.settings a.clock w.pace) v) calm (by_value (λ p. with_pace p (window_of c.set_stall.new.words)) paced c.set_pace.ensures))

pub returns-else-front : goal.returns-else-front
unfolding record_delivery_progress
returns-else-front c =
    let a = c.args in
    let w = window_of a.words.now in
    rw (sym c.was_front-front.ensures ∙ c.if-front.false) (by_value (λ x. with_stall x w) (c.unless_stalled-x.ensures ∙ ap (unless_stalled a.h a.source) c.get_stall-s.ensures) c.set_stall.ensures)

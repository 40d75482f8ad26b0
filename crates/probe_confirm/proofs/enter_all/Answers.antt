-- `probe_confirm::enter_all` meets its contract. Assumes nothing.
use mathlib.Core.Path.{refl, sym, subst, ◌∙◌}
use native.Mathlib.Omega.{arith}
use Rattle.model.specs.Layout.{window_of}
use Rattle.model.specs.Window.{Window}
use Rattle.laws.specs.Whole.{Holds, holds_whole}
use Rattle.probe_confirm.specs.Confirms.{seat_at, enters_step, enters_end}
use Rattle.probe_confirm.proofs.enter_all.Goals as goal

pub loop-alternate-init : goal.loop-alternate-init
loop-alternate-init c = (c.requires.0, (refl, refl))

pub set_racer-requires : goal.set_racer-requires
set_racer-requires c =
    let l = c.loop-alternate in
    (l.invariant.0, omega (arith, seat_at c.args.alternates.now l.alternate-index c.requires.1 c.loop-alternate-test.true))

pub loop-alternate-preserved : goal.loop-alternate-preserved
loop-alternate-preserved c =
    let l = c.loop-alternate in
    let r = c.set_racer in
    (r.ensures.whole, (enters_step c.args.alternates.now l.alternate-index (window_of r.new.words) (window_of l.words) c.loop-alternate-test.true r.ensures.is ∙ l.invariant.1.0, (omega arith) ∙ l.invariant.1.1))

pub returns : goal.returns
returns c =
    let l = c.loop-alternate in
    subst (λ (v : Window). Holds v l.words) (sym (enters_end c.args.alternates.now l.alternate-index (window_of l.words) c.loop-alternate-test.false) ∙ l.invariant.1.0) (holds_whole l.words l.invariant.0)

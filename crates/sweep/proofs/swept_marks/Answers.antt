-- `sweep::swept_marks` meets its contract. Assumes nothing.
use mathlib.Core.Path.{◌≡◌, ap, subst}
use mathlib.Core.List.{map}
use Prim.Native.Nat.{ℕ}
use lib.ListN.{length, take}
use Rattle.model.specs.LettingGo.{sweep_reason}
use Rattle.model.specs.Layout.{window_of}
use Rattle.model.specs.declared.Pace.{Pace}
use Rattle.laws.specs.Pending.{sound_ranged}
use Rattle.sweep.proofs.swept_marks.Goals as goal

pub timeout_of-timeout-requires : goal.timeout_of-timeout-requires
timeout_of-timeout-requires c = c.requires.1.settings

pub sweep_marks-requires : goal.sweep_marks-requires
sweep_marks-requires c =
    let a = c.args in
    (c.pending_count-count.ensures.0, ap (λ (p : Pace). p.wait) c.get_pace-pace.ensures, sound_ranged a.clock (window_of a.words.now) c.requires.1, c.requires.1.clock)

pub returns : goal.returns
returns c =
    let a = c.args in
    let w = window_of a.words.now in
    subst (λ (t : ℕ). take (length w.queue.pending) c.sweep_marks.result ≡ map (sweep_reason a.clock t w) w.queue.pending) c.timeout_of-timeout.ensures
    (subst (λ (k : ℕ). take k c.sweep_marks.result ≡ map (sweep_reason a.clock c.timeout_of-timeout.result w) w.queue.pending) c.pending_count-count.ensures.0 c.sweep_marks.ensures)

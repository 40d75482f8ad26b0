-- `observation::observe_blocked` meets its contract. Assumes nothing.
use Rattle.std.specs.Prelude.{Option, ℕ}
use mathlib.Core.Path.{subst}
use Rattle.model.specs.Layout.{window_of}
use Rattle.model.specs.Observation.{advance_apply_side_stuck}
use Rattle.laws.specs.Fits.{LowHeight}
use Rattle.laws.specs.LooksKept.{stuck_sound}
use Rattle.laws.specs.Parts.{sound_stuck}
use Rattle.look_steps.specs.Steps.{sound_in}
use Rattle.observation.specs.Look.{look, unplaced_sees, busy_sees, quiet_sees, seen_says}
use Rattle.observation.proofs.observe_blocked.Goals as goal

pub returns-in_default : goal.returns-in_default
returns-in_default c =
    let a = c.args in
    let l = look a.next a.frontier a.busy a.staged a.highest in
    seen_says (unplaced_sees l a.clock (window_of a.words.now) c.in_default.is (c.observe_unplaced.ensures a.next a.frontier a.staged a.highest))

pub advance_apply_side_stuck-evicted-requires : goal.advance_apply_side_stuck-evicted-requires
advance_apply_side_stuck-evicted-requires c =
    let start = c in
    (start.requires.0, start.requires.1, subst (λ (n : Option ℕ). LowHeight n) c.in-Some.is start.requires.2)

pub returns-then-busy : goal.returns-then-busy
returns-then-busy c =
    let a = c.args in
    let l = look a.next a.frontier a.busy a.staged a.highest in
    let s = c.advance_apply_side_stuck-evicted.ensures in
    seen_says (busy_sees l a.clock (window_of a.words.now) c.in-Some.height c.in-Some.is s.0 c.if-busy.true s.1 c.clear_watch.ensures)

pub observe_idle-requires : goal.observe_idle-requires
observe_idle-requires c =
    let start = c in
    let a = start.args in
    let w = window_of a.words.now in
    let height = c.in-Some.height in
    let low = subst (λ (n : Option ℕ). LowHeight n) c.in-Some.is start.requires.2 in
    let h = c.advance_apply_side_stuck-evicted.ensures.0 in
    let stuck = (advance_apply_side_stuck height a.frontier a.busy a.clock w).stuck in
    (h.whole, sound_in (sound_stuck start.requires.1 stuck (stuck_sound a.clock height a.frontier a.busy w low start.requires.1.watch.stuck)) h)

pub returns : goal.returns
returns c =
    let a = c.args in
    let l = look a.next a.frontier a.busy a.staged a.highest in
    let h = c.advance_apply_side_stuck-evicted.ensures.0 in
    seen_says (quiet_sees l a.clock (window_of a.words.now) c.in-Some.height c.in-Some.is h c.if-busy.false
    (c.observe_idle.ensures a.next a.frontier a.busy))

-- `look_steps::stall_at` meets its contract. Assumes nothing.
use Rattle.std.specs.Prelude.{None, Option}
use mathlib.Core.Path.{sym, ap, subst, ◌∙◌}
use native.Mathlib.Omega.{arith}
use lib.Dec.{ltb}
use borrow.Author.Tests.{lt-ltb, le-ltb}
use Rattle.model.specs.Cooling.{mark_peer_unresponsive}
use Rattle.model.specs.Layout.{window_of}
use Rattle.model.specs.Pace.{effective_stall_timeout, wait_widened}
use Rattle.model.specs.Observation.{stalled_since}
use Rattle.model.specs.Window.{with_stall, with_pace}
use Rattle.model.specs.declared.Pace.{Pace}
use Rattle.model.specs.declared.StallEpisode.{StallEpisode}
use Rattle.laws.specs.Every.{most_le}
use Rattle.laws.specs.LooksKept.{since_le}
use Rattle.laws.specs.Sound.{SoundStall}
use Rattle.laws.specs.Whole.{Holds}
use Rattle.look_steps.specs.Steps.{key_le, stall_goes, stall_fires}
use Rattle.look_steps.proofs.stall_at.Goals as goal

pub effective_stall_timeout-wait-requires : goal.effective_stall_timeout-wait-requires
effective_stall_timeout-wait-requires c = rw c.get_pace-p.ensures c.requires.1.pace.mean

pub set_stall-requires : goal.set_stall-requires
set_stall-requires c =
    let start = c in
    let a = start.args in
    let sound = subst (λ (s : Option StallEpisode). SoundStall a.clock s) (sym c.get_stall-s.ensures) start.requires.1.watch.stall in
    let le = since_le a.clock c.get_stall-s.result a.e sound in
    (start.requires.0, omega (arith, le, c.stalled_since-since.ensures, start.requires.1.clock))

pub returns-then-waited-wait : goal.returns-then-waited-wait
returns-then-waited-wait c =
    let a = c.args in
    let w = window_of a.words.now in
    let wait = c.effective_stall_timeout-wait.ensures ∙ (λ i. effective_stall_timeout (c.get_settings-b.ensures i) (c.get_pace-p.ensures i)) in
    let test = sym (λ i. ltb (c.saturating_sub-waited.ensures i) (wait i)) ∙ lt-ltb _ _ c.if-waited-wait.true in
    stall_goes a.e a.clock w (c.stalled_since-since.ensures ∙ ap (λ (s : Option StallEpisode). stalled_since s a.e a.clock) c.get_stall-s.ensures) test c.set_stall.ensures

pub lend_at_blame-widened-requires : goal.lend_at_blame-widened-requires
lend_at_blame-widened-requires c =
    let g = c.requires.1 in
    (rw c.get_pace-p.ensures g.pace.mean, rw c.get_pace-p.ensures g.pace.wait, rw c.get_settings-b.ensures (most_le _ g.settings))

pub end_stall-requires : goal.end_stall-requires
end_stall-requires c =
    let start = c in
    (start.requires.0, omega arith, start.requires.1.clock, key_le start.args.e.owner start.requires.1)

pub returns : goal.returns
returns c =
    let a = c.args in
    let w = window_of a.words.now in
    let wait = c.effective_stall_timeout-wait.ensures ∙ (λ i. effective_stall_timeout (c.get_settings-b.ensures i) (c.get_pace-p.ensures i)) in
    let test = sym (λ i. ltb (c.saturating_sub-waited.ensures i) (wait i)) ∙ le-ltb _ _ c.if-waited-wait.false in
    let widened = c.lend_at_blame-widened.ensures ∙ (λ i. wait_widened (c.get_settings-b.ensures i) (c.get_pace-p.ensures i)) in
    let h = subst (λ (p : Pace). Holds (mark_peer_unresponsive a.e.owner a.clock (with_pace p (with_stall None w))) c.end_stall.new.words) widened c.end_stall.ensures in
    stall_fires a.e a.clock w (c.stalled_since-since.ensures ∙ ap (λ (s : Option StallEpisode). stalled_since s a.e a.clock) c.get_stall-s.ensures) test h

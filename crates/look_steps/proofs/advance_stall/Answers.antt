-- `look_steps::advance_stall` meets its contract. Assumes nothing.
use Rattle.std.specs.Prelude.{Option}
use mathlib.Core.Path.{sym, subst, ◌∙◌}
use Rattle.model.specs.Layout.{window_of}
use Rattle.laws.specs.LooksKept.{FrontIn, lowest_in}
use Rattle.look_steps.specs.Steps.{stall_none, stall_free, stall_held}
use Rattle.look_steps.proofs.advance_stall.Goals as goal
use Rattle.model.specs.declared.Entry.{Entry}

pub returns-in_default : goal.returns-in_default
returns-in_default c =
    let a = c.args in
    stall_none a.next a.staged a.highest a.clock (window_of a.words.now) (sym c.lowest-lowest.ensures ∙ c.in_default.is) c.set_stall.ensures

pub stall_at-requires : goal.stall_at-requires
stall_at-requires c =
    let start = c in
    let a = start.args in
    let w = window_of a.words.now in
    let r = subst (λ (f : Option Entry). FrontIn a.clock f) (sym c.lowest-lowest.ensures ∙ c.in-Some.is) (lowest_in a.clock w.queue.pending start.requires.1.queue.each) in
    (start.requires.0, start.requires.1, r.owner)

pub returns-then-blocks : goal.returns-then-blocks
returns-then-blocks c =
    let a = c.args in
    let w = window_of a.words.now in
    stall_held a.next a.staged a.highest a.clock w (sym c.lowest-lowest.ensures ∙ c.in-Some.is)
    (sym (c.blocks-2.ensures w (sym c.get_settings-b.ensures)) ∙ c.if-blocks.true) c.stall_at.ensures

pub returns : goal.returns
returns c =
    let a = c.args in
    let w = window_of a.words.now in
    stall_free a.next a.staged a.highest a.clock w (sym c.lowest-lowest.ensures ∙ c.in-Some.is)
    (sym (c.blocks-2.ensures w (sym c.get_settings-b.ensures)) ∙ c.if-blocks.false) c.set_stall-2.ensures

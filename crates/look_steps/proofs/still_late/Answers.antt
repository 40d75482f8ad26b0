-- `look_steps::still_late` meets its contract. Assumes nothing.
use Rattle.std.specs.Prelude.{Some}
use mathlib.Core.Path.{sym, ap, subst, ◌∙◌}
use native.Mathlib.Omega.{arith}
use borrow.Author.Tests.{eq-eqb, ne_eqb}
use Rattle.model.specs.Layout.{window_of}
use Rattle.records.specs.Places.{Finds, here_found, free_found}
use Rattle.laws.specs.Whole.{sound_rises}
use Rattle.expiry.specs.Late.{spacing_le}
use Rattle.look_steps.proofs.still_late.Goals as goal

pub returns-in_default : goal.returns-in_default
returns-in_default c =
    let start = c in
    let w = window_of start.args.words.now in
    rw (free_found start.args.h w.queue.pending _ (sound_rises start.args.clock w start.requires.1) (subst (Finds c.args.h (window_of c.args.words.now).queue.pending) c.in_default.is c.find-place.ensures)).0

pub entry_at-e-requires : goal.entry_at-e-requires
entry_at-e-requires c = (c.requires.0, (subst (Finds c.args.h (window_of c.args.words.now).queue.pending) c.in-Ok.is c.find-place.ensures).1.0)

pub returns-then-e-owner : goal.returns-then-e-owner
returns-then-e-owner c =
    let start = c in
    let w = window_of start.args.words.now in
    let f = (here_found start.args.h w.queue.pending _ (sound_rises start.args.clock w start.requires.1) (subst (Finds c.args.h (window_of c.args.words.now).queue.pending) c.in-Ok.is c.find-place.ensures)).0 in
    rw (f ∙ ap Some (sym c.entry_at-e.ensures), ne_eqb _ _ c.if-e-owner.true)

pub owner_expired-requires : goal.owner_expired-requires
owner_expired-requires c =
    let start = c in
    (spacing_le _ start.requires.1.settings, omega arith, start.requires.1.clock)

pub returns : goal.returns
returns c =
    let start = c in
    let w = window_of start.args.words.now in
    let f = (here_found start.args.h w.queue.pending _ (sound_rises start.args.clock w start.requires.1) (subst (Finds c.args.h (window_of c.args.words.now).queue.pending) c.in-Ok.is c.find-place.ensures)).0 in
    rw (f ∙ ap Some (sym c.entry_at-e.ensures), eq-eqb _ _ c.if-e-owner.false) c.owner_expired.ensures

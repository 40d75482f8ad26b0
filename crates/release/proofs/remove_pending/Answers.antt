-- `release::remove_pending` meets its contract. Assumes nothing.
use mathlib.Core.Path.{subst}
use Rattle.model.specs.Layout.{window_of}
use Rattle.records.specs.Places.{Finds}
use Rattle.release.specs.Removes.{removed_holds, stays_held}
use native.Mathlib.Omega.{arith}
use Rattle.release.proofs.remove_pending.Goals as goal

pub returns-in-Ok : goal.returns-in-Ok
returns-in-Ok c =
    let a = c.args in
    let f = subst (Finds a.h (window_of a.words.now).queue.pending) c.in-Ok.is c.find-p.ensures in
    let d = removed_holds a.clock a.reason a.h a.words.now c.let_out.new.words a.gone.now c.put_release.new.gone c.requires.0 c.requires.1.0 c.in-Ok.at c.entry_at-e.result c.entry_at-e.ensures f c.let_out.ensures c.put_release.ensures in
    (omega arith, d.0, d.1)

pub returns-in-Err : goal.returns-in-Err
returns-in-Err c =
    let a = c.args in
    let f = subst (Finds a.h (window_of a.words.now).queue.pending) c.in-Err.is c.find-p.ensures in
    let d = stays_held a.clock a.reason a.h a.words.now a.words.now a.gone.now a.gone.now c.requires.0 c.requires.1.0 c.in-Err.field-0 f in
    (omega arith, d.0, d.1)

-- `queries::found` meets its contract. Assumes nothing.
use Rattle.std.specs.Prelude.{Some}
use mathlib.Core.Path.{sym, subst, ap, ◌∙◌}
use Rattle.model.specs.Layout.{window_of}
use Rattle.records.specs.Places.{Finds, here_found, free_found}
use Rattle.queries.proofs.found.Goals as goal

pub entry_at-e-requires : goal.entry_at-e-requires
entry_at-e-requires c =
    let l = (window_of c.args.words.now).queue.pending in
    (c.requires.0, (subst (Finds c.args.h l) c.in-Ok.is c.find-p.ensures).1.0)

pub returns-in-Ok : goal.returns-in-Ok
returns-in-Ok c =
    let l = (window_of c.args.words.now).queue.pending in
    ap Some c.entry_at-e.ensures ∙ sym (here_found c.args.h l c.in-Ok.at c.requires.1 (subst (Finds c.args.h l) c.in-Ok.is c.find-p.ensures)).0

pub returns-in-Err : goal.returns-in-Err
returns-in-Err c =
    let l = (window_of c.args.words.now).queue.pending in
    sym (free_found c.args.h l c.in-Err.field-0 c.requires.1 (subst (Finds c.args.h l) c.in-Err.is c.find-p.ensures)).0

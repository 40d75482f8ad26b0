-- `admission::alternates_ok` meets its contract. Assumes nothing.
use Rattle.std.proofs.Common.{◌∙◌, sym, length}
use borrow.Author.Tests.{lt-leb}
use Rattle.admission.specs.Alternates.{alternates_many, alternates_start}
use Rattle.admission.proofs.alternates_ok.Goals as goal

pub returns-then-alternates-le-SEATS : goal.returns-then-alternates-le-SEATS
returns-then-alternates-le-SEATS c =
    let l = c.args.alternates.now in
    c.all_seats.ensures ∙ sym (alternates_start l c.if-alternates-le-SEATS.true)

pub returns-else-alternates-le-SEATS : goal.returns-else-alternates-le-SEATS
returns-else-alternates-le-SEATS c = let l = c.args.alternates.now in lt-leb (length l) 256 c.if-alternates-le-SEATS.false ∙ alternates_many l c.if-alternates-le-SEATS.false

-- `admission::all_seats` meets its contract. Assumes nothing.
use Rattle.std.proofs.Common.{◌∙◌, rules}
use borrow.Author.Tests.{tests}
use Rattle.std.proofs.lemmas.Iterator.{YieldsList-from_slice}
use Rattle.std.proofs.lemmas.Iterator.Search.{all_from_yields_List}
use Rattle.model.specs.Refusals.{seat_ok}
use Rattle.admission.proofs.Seats.{all_seats}
use Rattle.admission.proofs.all_seats.Goals as goal

pub returns : goal.returns
returns c =
    let l = c.args.keys.now in
    all_from_yields_List seat_ok _ _ _ c.all.ensures.ran (YieldsList-from_slice l cc) (λ x b q k. search (rules, tests)) ∙ all_seats l

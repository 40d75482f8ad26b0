-- `calls::credit_begun` meets its contract. Assumes nothing.
use Rattle.model.specs.Calls.{credit_duplicate_delivery}
use Rattle.rules.specs.Rows.{then}
use Rattle.calls.proofs.credit_begun.Goals as goal

pub returns : goal.returns
returns c = then (λ v. credit_duplicate_delivery c.args.h c.args.source v) c.note_body.ensures c.credit_duplicate_delivery.ensures

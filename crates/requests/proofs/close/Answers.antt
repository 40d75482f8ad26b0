-- `requests::close` meets its contract. Assumes nothing.
use Rattle.requests.specs.Rows.{risen}
use Rattle.rules.specs.Rows.{then}
use Rattle.requests.proofs.close.Goals as goal

pub returns : goal.returns
returns c = then (risen c.args.next) c.start_owner.ensures c.raise.ensures

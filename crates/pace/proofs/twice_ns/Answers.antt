-- `pace::twice_ns` meets its contract. Assumes nothing.
use mathlib.Core.Path.{sym}
use Rattle.pace.specs.Stored.{twice_ns_some}
use Rattle.pace.proofs.twice_ns.Goals as goal

pub returns : goal.returns
returns c = sym (twice_ns_some _ c.if-mean-eq0.false)

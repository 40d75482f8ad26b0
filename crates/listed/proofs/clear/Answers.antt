-- `listed::clear` meets its contract. Assumes nothing.
use Rattle.std.proofs.Common.{rules}
use Rattle.listed.specs.Laws.{indexed_none}
use Rattle.listed.proofs.clear.Goals as goal

pub returns : goal.returns
returns c = indexed_none _ (search rules) c.clear_heads.ensures

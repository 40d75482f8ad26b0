-- `listed::names` meets its contract. Assumes nothing.
use Rattle.std.proofs.Common.{◌/◌, List, length, ap, ◌∙◌, arith, take_all}
use Rattle.model.specs.Lists.{any}
use Rattle.model.specs.Hash.{hashes_in, same}
use Rattle.model.specs.Planning.{names}
use Rattle.model.specs.declared.Hash.{Hash}
use Rattle.listed.specs.Search.{length_hashes}
use Rattle.listed.proofs.names.Goals as goal

pub returns : goal.returns
unfolding names
returns c =
    let a = c.args in
    c.names_first.ensures ∙ ap (λ (l : List Hash). any (same a.h) l) (take_all (length a.list.now / 4) (hashes_in a.list.now) (omega (arith, length_hashes a.list.now)))

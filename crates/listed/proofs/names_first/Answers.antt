-- `listed::names_first` meets its contract. Assumes nothing.
use Rattle.std.proofs.Common.{ℕ, length, take, sym, ap, ◌∙◌, arith}
use Rattle.model.specs.Lists.{any}
use Rattle.model.specs.Hash.{hashes_in, same}
use Rattle.listed.specs.Search.{any_take}
use Rattle.listed.specs.Laws.{linked_le}
use Rattle.listed.proofs.names_first.Goals as goal

pub returns-then-chained : goal.returns-then-chained
returns-then-chained c =
    let s = c.args in
    sym (any_take (same s.h) _ s.n (hashes_in s.list.now) (linked_le s.n (length s.index.now)) (sym c.chained.ensures ∙ c.if-chained.true))

pub looked_through-requires : goal.looked_through-requires
looked_through-requires c =
    let s = c.args in (
      ap (λ (m : ℕ). any (same s.h) (take m (hashes_in s.list.now))) c.linked-m.ensures ∙ sym c.chained.ensures ∙ c.if-chained.false,
      omega (arith, c.linked-m.ensures, linked_le s.n (length s.index.now), c.requires.1),
    )

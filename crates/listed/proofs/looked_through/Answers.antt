-- `listed::looked_through` meets its contract: the hash is at no place before i. Assumes nothing.
use Rattle.std.proofs.Common.{sym, ◌∙◌, arith}
use Rattle.listed.specs.Search.{named_at, named_more}
use Rattle.listed.proofs.looked_through.Goals as goal

pub returns-then-is_at : goal.returns-then-is_at
returns-then-is_at c = sym (named_at _ _ _ c.requires.1.1 c.loop-i.i (omega arith) (sym c.is_at.ensures ∙ c.if-is_at.true))

pub loop-i-preserved : goal.loop-i-preserved
loop-i-preserved c = named_more _ _ _ c.requires.1.1 c.loop-i.i (omega arith) c.loop-i.invariant (sym c.is_at.ensures ∙ c.if-is_at.false)

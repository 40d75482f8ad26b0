-- `cooling::drop_cooled` meets its contract. At the loop's head the stored times so far are mapped. Assumes nothing.
use mathlib.Core.Path.{◌≡◌, ap, ◌∙◌}
use Prim.Native.Nat.{ℕ}
use native.Mathlib.Omega.{arith}
use native.Mathlib.Numerals.{add-one}
use mathlib.Core.List.{List}
use lib.ListN.{get_or, set}
use Rattle.cooling.specs.InPlace.{kept, mapped_read, mapped_step, mapped_done}
use Rattle.cooling.proofs.drop_cooled.Goals as goal

pub loop-stored-preserved : goal.loop-stored-preserved
loop-stored-preserved c =
    let l = c.args.table.now in
    let i = c.loop-stored.stored-index in
    let v = c.kept.result in
    let f = kept c.args.cooldown c.args.clock in
    let is = c.loop-stored.invariant in
    let read : get_or c.loop-stored.table i 0 ≡ get_or l i 0 = ap (λ (t : List ℕ). get_or t i 0) is ∙ mapped_read f i l 0 in
    ap (λ (t : List ℕ). set t i v) is ∙ mapped_step f i l v 0 (omega arith) (c.kept.ensures ∙ ap f read) ∙ rw add-one

pub returns : goal.returns
returns c = c.loop-stored.invariant ∙ mapped_done _ c.loop-stored.stored-index c.args.table.now (omega arith)

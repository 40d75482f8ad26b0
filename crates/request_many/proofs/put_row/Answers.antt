-- `request_many::put_row` meets its contract: at the loop's head the columns below k are done. Assumes nothing.
use mathlib.Core.Path.{ap, ◌∙◌}
use Prim.Native.Nat.{ℕ}
use native.Mathlib.Omega.{arith}
use lib.ListN.{set}
use Rattle.laws.specs.Rows.{mid, upto_call}
use Rattle.records.proofs.Live.{all_columns}
use Rattle.request_many.specs.Fill.{set_col, decode_set}
use Rattle.request_many.proofs.put_row.Goals as goal

pub loop-k-preserved : goal.loop-k-preserved
loop-k-preserved c =
    let l = c.loop-k in
    upto_call (set_col c.args.at c.args.e) l.k c.args.words.now l.words c.store.new.col
    (omega arith) c.told-words c.store.auto.col
    (c.store.ensures ∙ ap (λ (v : ℕ). set (mid l.k l.words) c.args.at v) c.field_of-v.ensures) l.invariant

pub returns : goal.returns
returns c = decode_set c.args.at c.args.e c.args.words.now c.loop-k.words c.told-words (all_columns c.loop-k.invariant (omega arith) (omega arith))

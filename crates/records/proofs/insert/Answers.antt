-- `records::insert` meets its contract: at the loop's head the columns below k are done. Assumes nothing.
use mathlib.Core.Path.{ap, ◌∙◌}
use Prim.Native.Nat.{ℕ}
use native.Mathlib.Omega.{arith}
use Rattle.column.specs.Edits.{inserted}
use Rattle.laws.specs.Rows.{mid, upto_start, upto_call}
use Rattle.laws.specs.Tables.{put_col, decode_put_in}
use Rattle.records.proofs.Live.{mid_long, mid_blank, all_columns}
use Rattle.records.proofs.insert.Goals as goal

pub loop-k-init : goal.loop-k-init
loop-k-init c = upto_start (put_col c.args.at c.args.e) c.args.words.now

pub insert_live-requires : goal.insert_live-requires
insert_live-requires c =
    let l = c.loop-k in
    let ws = c.args.words.now in (
      mid_long l.k ws l.words (omega arith) c.told-words l.invariant.long,
      c.requires.0,
      c.requires.1,
      mid_blank l.k c.args.live ws l.words (omega arith) c.told-words (l.invariant.todo l.k (omega arith)) c.requires.2,
    )

pub loop-k-preserved : goal.loop-k-preserved
loop-k-preserved c =
    let l = c.loop-k in
    let put = c.insert_live in
    upto_call (put_col c.args.at c.args.e) l.k c.args.words.now l.words put.new.col (omega arith) c.told-words put.auto.col
    (put.ensures ∙ ap (λ (v : ℕ). inserted c.args.at v (mid l.k l.words)) c.field_of-v.ensures) l.invariant

pub returns : goal.returns
returns c =
    let l = c.loop-k in
    decode_put_in c.args.at c.args.e c.args.words.now l.words c.told-words (all_columns l.invariant (omega arith) (omega arith))

-- `records::remove` meets its contract: at the loop's head the columns below k are done. Assumes nothing.
use native.Mathlib.Omega.{arith}
use Rattle.laws.specs.Rows.{upto_start, upto_call}
use Rattle.laws.specs.Tables.{removed_col, decode_removed}
use Rattle.records.proofs.Live.{mid_long, mid_blank, all_columns}
use Rattle.records.proofs.remove.Goals as goal

pub loop-k-init : goal.loop-k-init
loop-k-init c = upto_start (removed_col c.args.at) c.args.words.now

pub remove_live-requires : goal.remove_live-requires
remove_live-requires c =
    let l = c.loop-k in
    let ws = c.args.words.now in (
      mid_long l.k ws l.words (omega arith) c.told-words l.invariant.long,
      c.requires.0,
      c.requires.1,
      mid_blank l.k c.args.live ws l.words (omega arith) c.told-words (l.invariant.todo l.k (omega arith)) c.requires.2,
    )

pub loop-k-preserved : goal.loop-k-preserved
loop-k-preserved c =
    let l = c.loop-k in
    let out = c.remove_live in
    upto_call (removed_col c.args.at) l.k c.args.words.now l.words out.new.col (omega arith) c.told-words out.auto.col out.ensures l.invariant

pub returns : goal.returns
returns c =
    let l = c.loop-k in
    decode_removed c.args.at c.args.words.now l.words c.told-words (all_columns l.invariant (omega arith) (omega arith))

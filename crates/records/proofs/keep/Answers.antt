-- `records::keep` meets its contract: at the loop's head the columns below k are done. Assumes nothing.
use native.Mathlib.Omega.{arith}
use Rattle.laws.specs.Rows.{upto_start, upto_call}
use Rattle.laws.specs.Tables.{kept_col, decode_kept}
use Rattle.records.proofs.Live.{all_columns}
use Rattle.records.proofs.keep.Goals as goal

pub loop-k-init : goal.loop-k-init
loop-k-init c = upto_start (kept_col c.args.marks.now) c.args.words.now

pub loop-k-preserved : goal.loop-k-preserved
loop-k-preserved c =
    let l = c.loop-k in
    let kept = c.keep_unmarked in
    upto_call (kept_col c.args.marks.now) l.k c.args.words.now l.words kept.new.col (omega arith) c.told-words kept.auto.col kept.ensures l.invariant

pub returns : goal.returns
returns c =
    let l = c.loop-k in
    decode_kept c.args.marks.now c.args.words.now l.words c.told-words (all_columns l.invariant (omega arith) (omega arith))

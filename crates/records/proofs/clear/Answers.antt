-- `records::clear` meets its contract: at the loop's head the columns below k are done. Assumes nothing.
use mathlib.Core.Path.{◌∙◌}
use native.Mathlib.Omega.{arith}
use Rattle.laws.specs.Rows.{upto_start, upto_call}
use Rattle.laws.specs.Tables.{kept_col, decode_kept}
use Rattle.records.specs.Cleared.{all_marked, cleared}
use Rattle.records.proofs.Live.{all_columns}
use Rattle.records.proofs.clear.Goals as goal

pub loop-k-init : goal.loop-k-init
loop-k-init c = upto_start (kept_col all_marked) c.args.words.now

pub loop-k-preserved : goal.loop-k-preserved
loop-k-preserved c =
    let l = c.loop-k in
    let gone = c.clear_from in
    upto_call (kept_col all_marked) l.k c.args.words.now l.words gone.new.col (omega arith) c.told-words gone.auto.col
    (gone.ensures ∙ cleared l.k l.words) l.invariant

pub returns : goal.returns
returns c =
    let l = c.loop-k in
    decode_kept all_marked c.args.words.now l.words c.told-words (all_columns l.invariant (omega arith) (omega arith))

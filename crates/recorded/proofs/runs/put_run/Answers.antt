-- `recorded::runs::put_run` meets its contract. Assumes nothing.
use Rattle.std.proofs.Common.{◌≡◌, ℕ, get_or, ap, ◌∙◌, arith}
use Rattle.recorded.specs.Records.{word_after, run_put}
use Rattle.recorded.proofs.Turns.{upto_start, upto_step, upto_done}
use Rattle.recorded.proofs.runs.put_run.Invariants.{new}
use Rattle.recorded.proofs.runs.put_run.Goals as goal

pub loop-i-init : goal.loop-i-init
loop-i-init c = upto_start _ _

pub loop-i-preserved : goal.loop-i-preserved
loop-i-preserved c =
    let r = c.args.run in
    let v = c.loop-i in
    let w = c.word_after in
    let x : w.result ≡ new r.numbers.now r.at v.i (get_or v.words v.i 0) =
    w.ensures
    ∙ ap (λ (k : ℕ). word_after r.numbers.now r.at k c.nth-n.result v.i (get_or v.words v.i 0)) c.get-first.ensures
    ∙ ap (λ (k : ℕ). word_after r.numbers.now r.at (get_or r.numbers.now r.at 0) k v.i (get_or v.words v.i 0)) c.nth-n.ensures in
    upto_step (new r.numbers.now r.at) c.args.words.now v.words v.i w.result (omega arith) v.invariant x

pub returns : goal.returns
unfolding run_put
returns c =
    let r = c.args.run in
    let v = c.loop-i in
    upto_done (new r.numbers.now r.at) c.args.words.now v.words v.i (omega arith) v.invariant

-- `probe_confirm::is_plan` meets its contract. Assumes nothing.
use mathlib.Core.Path.{◌∙◌}
use Prim.Native.Nat.{◌*◌}
use native.Mathlib.Omega.{arith}
use lib.ListN.{length}
use borrow.Author.Tests.{eq-eqb, ne_eqb}
use Rattle.model.specs.Hash.{hashes_in}
use Rattle.plans.specs.Rows.{rows_hashes}
use Rattle.probe_hashes.specs.Rows.{count_hashes}
use Rattle.probe_confirm.specs.Confirms.{rows_same, given_count}
use Rattle.probe_confirm.proofs.is_plan.Goals as goal

pub overflow_mul-n : goal.overflow_mul-n
overflow_mul-n c = omega (arith, c.requires.few)

pub returns-then-given-n : goal.returns-then-given-n
returns-then-given-n c = rw (ne_eqb (length c.args.given.now) (4 * c.args.n) (λ q. omega (arith, q, c.if-given-n.true)))

pub given_hashes-named-requires : goal.given_hashes-named-requires
given_hashes-named-requires c = (omega (arith, c.if-given-n.false), c.requires.few)

pub returns : goal.returns
returns c =
    let s = c in
    let given = s.args.given.now in
    let n = s.args.n in
    rw (eq-eqb (length given) (4 * n) c.if-given-n.false)
    (c.same_rows.ensures ∙ rows_same n (rows_hashes n s.args.rows) (hashes_in given) s.args.rows c.given_hashes-named.result (count_hashes n s.args.rows) (given_count n given c.if-given-n.false) s.requires.words c.given_hashes-named.ensures)

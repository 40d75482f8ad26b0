-- `report_words::put_release` meets its contract. Assumes nothing.
use mathlib.Core.Path.{◌∙◌}
use Prim.Native.Nat.{◌+◌, ◌-◌, ◌*◌}
use Rattle.report_words.specs.Report.{release_put}
use native.Mathlib.Omega.{arith}
use Rattle.report_words.proofs.put_release.Goals as goal

pub returns : goal.returns
returns c =
    let a = c.args in
    release_put a.n a.reason a.e a.gone.now c.copy_over.new.dst (9 * a.n + 9 - 9 * a.n) (omega arith) (omega arith) (c.copy_over.ensures ∙ c.nine-l.ensures)

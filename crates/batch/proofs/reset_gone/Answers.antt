-- `batch::reset_gone` meets its contract. Assumes nothing.
use native.Mathlib.Omega.{arith}
use Rattle.report_words.specs.Report.{releases_of}
use Rattle.batch.specs.Resets.{resets_hold}
use Rattle.batch.proofs.reset_gone.Goals as goal

pub returns : goal.returns
returns c =
    let a = c.args in
    resets_hold a.clock (releases_of a.n a.gone.now) a.words.now c.reset_all.new.words c.requires.0 (omega arith) c.reset_all.ensures

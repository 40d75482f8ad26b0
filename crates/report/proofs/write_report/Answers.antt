-- `report::write_report` meets its contract: a turn writes one place more. Assumes nothing.
use Rattle.std.proofs.Common.{◌≡◌, ℕ, List, set, refl, ap, ◌∙◌, add-one, arith}
use Rattle.model.specs.declared.Release.{Release}
use Rattle.report_words.specs.Report.{releases_of}
use Rattle.report.proofs.Lists.{written, written_next}
use Rattle.report.proofs.write_report.Goals as goal

pub loop-i-init : goal.loop-i-init
unfolding releases_of
loop-i-init c = refl

pub loop-i-preserved : goal.loop-i-preserved
loop-i-preserved c =
    let i = c.loop-i.i in
    let r = c.release_at.result in
    let xs = c.args.report.now in
    rw add-one (ap (λ (l : List Release). set l i r) c.loop-i.invariant ∙ written_next i c.args.gone.now xs r c.release_at.ensures (omega arith))

pub returns : goal.returns
returns c =
    let e : c.loop-i.i ≡ c.args.n = omega arith in
    (refl, c.loop-i.invariant ∙ ap (λ (k : ℕ). written k c.args.gone.now c.args.report.now) e)

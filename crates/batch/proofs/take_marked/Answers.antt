-- `batch::take_marked` meets its contract. Assumes nothing.
use mathlib.Core.Path.{ap, ◌∙◌}
use Prim.Native.Nat.{◌-◌}
use Rattle.model.specs.LettingGo.{total_after, frontier_after}
use Rattle.laws.specs.Marks.{extract_by}
use Rattle.report_words.specs.Report.{releases_of}
use Rattle.batch.specs.Extracts.{gone_is, none_holds, left_is, extract_holds}
use native.Mathlib.Omega.{arith}
use Rattle.batch.proofs.take_marked.Goals as goal

-- nothing is marked
pub returns-then-n-eq0 : goal.returns-then-n-eq0
unfolding extract_by
returns-then-n-eq0 c =
    let a = c.args in
    let p = c.requires in
    let g = c.gather-n in
    let n = c.pending_count-count in
    let z = c.if-n-eq0.true in
    (omega arith, none_holds a.words.now a.marks.now p c.told-marks g.result n.result g.new.gone n.ensures.0 g.ensures.1 (omega (arith, z)), rw (← z) (gone_is a.words.now a.marks.now p c.told-marks g.result n.result g.new.gone n.ensures.0 g.ensures.1))

pub keep_entries-requires : goal.keep_entries-requires
keep_entries-requires c =
    let a = c.args in
    let p = c.requires in
    let g = c.gather-n in
    let n = c.pending_count-count in
    (p, left_is a.words.now a.marks.now p c.told-marks g.result n.result g.new.gone n.ensures.0 g.ensures.1)

pub returns : goal.returns
unfolding extract_by
returns c =
    let a = c.args in
    let p = c.requires in
    let g = c.gather-n in
    let n = c.pending_count-count in
    let s = c.totals_after-t in
    let k = c.keep_entries in
    let x = c.set_frontier in
    let core = g.new.gone in
    let t = s.ensures.0 ∙ ap (total_after (releases_of g.result core)) c.get_total-total.ensures in
    let f = s.ensures.1 ∙ ap (frontier_after (releases_of g.result core)) c.get_frontier-frontier.ensures in
    (omega (arith, g.ensures.0, n.ensures.1), extract_holds a.words.now a.marks.now p c.told-marks g.result n.result core n.ensures.0 g.ensures.1 s.result.total s.result.frontier k.new.words x.new.words t f k.ensures x.ensures, gone_is a.words.now a.marks.now p c.told-marks g.result n.result core n.ensures.0 g.ensures.1)

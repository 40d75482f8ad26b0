-- `plan_scan::request_from` meets its contract. Assumes nothing.
use mathlib.Core.Bool.{not}
use Rattle.std.proofs.Common.{ap}
use mathlib.Core.Path.{sym, ◌∙◌}
use Rattle.model.specs.Layout.{window_of}
use Rattle.plan_scan.specs.Proposes.{scans_both, proposes_over}
use Rattle.plan_scan.proofs.request_from.Goals as goal

pub returns-then-not-scans : goal.returns-then-not-scans
returns-then-not-scans c =
    let s = c in
    let a = s.args in
    proposes_over a.chain.now a.staged.hashes.now a.refused.hashes.now (window_of a.words.now) a.hashes.now a.heights.now a.scan a.count a.low _ _ s.requires.1.frontier
    (sym c.scans.ensures ∙ c.if-not-scans.true) c.held_back-next.ensures c.non_empty_request.ensures

pub request_by_scan-requires : goal.request_by_scan-requires
request_by_scan-requires c =
    let s = c in
    let a = s.args in
    (s.requires.0, (s.requires.1, scans_both a.scan.height a.scan.tip a.scan.limit _ c.scans.ensures (ap not c.if-not-scans.false)))

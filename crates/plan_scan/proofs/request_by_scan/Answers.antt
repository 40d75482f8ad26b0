-- `plan_scan::request_by_scan` meets its contract. Assumes nothing.
use mathlib.Core.Path.{refl}
use Rattle.model.specs.Layout.{window_of}
use Rattle.plan_scan.specs.Proposes.{scannable, proposes_scanned}
use Rattle.plan_scan.proofs.request_by_scan.Goals as goal

pub scan_chain-r-requires : goal.scan_chain-r-requires
scan_chain-r-requires c =
    let s = c in
    let a = s.args in
    (s.requires.0, scannable a.words.now a.chain.now a.hashes.now a.heights.now a.index.now a.scan a.count _ _ s.requires.1.0 c.reach-last.ensures)

pub next_from-next-requires : goal.next_from-next-requires
next_from-next-requires c =
    let s = c in
    let a = s.args in
    let p = scannable a.words.now a.chain.now a.hashes.now a.heights.now a.index.now a.scan a.count _ _ s.requires.1.0 c.reach-last.ensures in
    (p.top, s.requires.1.0.top)

pub returns : goal.returns
returns c =
    let s = c in
    let a = s.args in
    let p = s.requires.1 in
    let k = c.scan_chain-r in
    proposes_scanned a.chain.now a.staged.hashes.now a.refused.hashes.now (window_of a.words.now) a.hashes.now a.heights.now _ _ a.scan a.count a.low _ _ _ _ k.result
    p.0.frontier p.0.above p.1.0 p.1.1 c.pending_count-pending.ensures.0 c.len-held.ensures c.reach-last.ensures refl k.ensures _ _ c.met_none-clean.ensures refl _ c.next_from-next.ensures _ c.non_empty_request.ensures

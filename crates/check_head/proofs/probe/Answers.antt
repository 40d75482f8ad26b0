-- `check_head::probe` meets its contract: by its first word and its count. Assumes nothing.
use mathlib.Core.Path.{◌∙◌}
use Rattle.facts.specs.Head.{probe_none, probe_many, probe_some}
use Rattle.facts.specs.Flags.{fold}
use Rattle.check_head.proofs.probe.Goals as goal

pub returns-then-since-eq0 : goal.returns-then-since-eq0
returns-then-since-eq0 c = c.any_bits.ensures ∙ probe_none _ c.if-since-eq0.true

pub returns-then-n-gt-PROBED : goal.returns-then-n-gt-PROBED
returns-then-n-gt-PROBED c = probe_many _ c.if-since-eq0.false _ c.to_usize-n.ensures c.if-n-gt-PROBED.true

pub returns : goal.returns
unfolding fold
returns c =
    let at = c in
    probe_some _ at.if-since-eq0.false _ at.to_usize-n.ensures _ at.any_bits-rest.ensures

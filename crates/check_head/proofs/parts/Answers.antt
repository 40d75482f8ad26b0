-- `check_head::parts` meets its contract: each part is its condition. Assumes nothing.
use mathlib.Core.Path.{◌∙◌}
use mathlib.Core.Bool.{◌&&◌}
use Rattle.facts.specs.Head.{stall_is, stuck_is}
use Rattle.facts.specs.Words.{later, later_fits}
use Rattle.facts.specs.Flags.{fold}
use Rattle.check_head.proofs.parts.Goals as goal

pub returns : goal.returns
unfolding later_fits later fold
returns c =
    let stall = c.since-c.ensures ∙ stall_is _ in
    let stuck = c.since-d.ensures ∙ stuck_is _ in
    λ i. c.settings-a.ensures i && c.small-b.ensures i && stall i && stuck i && c.cold-e.ensures i
    && c.hedged-f.ensures i && c.observation-g.ensures i && c.probe-h.ensures i && c.any_bits-i.ensures i

-- `check_head::head` meets its contract: an exit where the first words do not fit; past it, they do. Assumes nothing.
use mathlib.Core.Path.{◌≡◌, sym, ap, ◌∙◌}
use mathlib.Core.Bool.{Bool, true, ◌&&◌}
use Rattle.model.specs.Layout.{decode, counts_ok}
use Rattle.facts.specs.Words.{later_fits, head_fits}
use Rattle.facts.specs.Head.{counts_clock}
use Rattle.check_head.proofs.head.Goals.{Else-not-counts}
use Rattle.check_head.proofs.head.Goals as goal

holds : (c : Else-not-counts) → counts_ok (decode c.args.w.now) ≡ true
holds c = sym c.counts.ensures ∙ c.if-not-counts.false

pub returns-then-not-counts : goal.returns-then-not-counts
unfolding head_fits
returns-then-not-counts c = sym (ap (λ (q : Bool). q && later_fits c.args.w.now) (sym c.counts.ensures ∙ c.if-not-counts.true))

pub parts-requires : goal.parts-requires
parts-requires c = let ws = c.args.w.now in
    counts_clock ws (holds (goal.at.parts-requires c).Else-not-counts)

pub returns : goal.returns
unfolding head_fits
returns c = c.parts.ensures ∙ sym (ap (λ (q : Bool). q && later_fits c.args.w.now) (holds (goal.at.returns c).Else-not-counts))

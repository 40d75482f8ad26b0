-- `cold_front::confirm_cold_front_hedge` meets its contract. Assumes nothing.
use mathlib.Core.Path.{sym, ◌∙◌, subst}
use Rattle.model.specs.Layout.{window_of}
use Rattle.model.specs.Window.{Window, with_cold}
use Rattle.model.specs.declared.ColdFront.TheVariants.{Racing}
use Rattle.laws.specs.Whole.{Holds, holds_whole}
use Rattle.cold_front.specs.Cold.{confirm_not, confirm_known, confirm_full, confirm_new}
use Rattle.cold_front.proofs.confirm_cold_front_hedge.Goals as goal

pub returns-then-not-waits_for : goal.returns-then-not-waits_for
returns-then-not-waits_for c = subst (λ (v : Window). Holds v c.args.words.now) (confirm_not c.args.owner c.args.alternate c.args.h (window_of c.args.words.now) c.get_cold-cold.result c.get_cold-cold.ensures (sym c.waits_for.ensures ∙ c.if-not-waits_for.true)) (holds_whole c.args.words.now c.requires)

pub returns-then-is_hedged : goal.returns-then-is_hedged
returns-then-is_hedged c = subst (λ (v : Window). Holds v c.set_cold.new.words) (confirm_known c.args.owner c.args.alternate c.args.h (window_of c.args.words.now) c.get_cold-cold.result c.get_cold-cold.ensures (sym c.waits_for.ensures ∙ c.if-not-waits_for.false) (sym c.is_hedged.ensures ∙ c.if-is_hedged.true)) c.set_cold.ensures

pub returns-then-hedged_count-ge-MAX_COLD_FRONT_HEDGES : goal.returns-then-hedged_count-ge-MAX_COLD_FRONT_HEDGES
returns-then-hedged_count-ge-MAX_COLD_FRONT_HEDGES c = subst (λ (v : Window). Holds v c.args.words.now) (confirm_full c.args.owner c.args.alternate c.args.h (window_of c.args.words.now) c.get_cold-cold.result c.get_cold-cold.ensures (sym c.waits_for.ensures ∙ c.if-not-waits_for.false) (sym c.is_hedged.ensures ∙ c.if-is_hedged.false) c.hedged_count.result c.hedged_count.ensures c.if-hedged_count-ge-MAX_COLD_FRONT_HEDGES.true) (holds_whole c.args.words.now c.requires)

pub returns : goal.returns
returns c = subst (λ (v : Window). Holds v c.set_cold-2.new.words) (confirm_new c.args.owner c.args.alternate c.args.h (window_of c.args.words.now) c.get_cold-cold.result c.get_cold-cold.ensures (sym c.waits_for.ensures ∙ c.if-not-waits_for.false) (sym c.is_hedged.ensures ∙ c.if-is_hedged.false) c.hedged_count.result c.hedged_count.ensures c.if-hedged_count-ge-MAX_COLD_FRONT_HEDGES.false)
    (subst (λ (v : Window). Holds (with_cold (Racing c.args.owner c.args.alternate c.args.h) v) c.set_cold-2.new.words) c.push_hedged.ensures.is c.set_cold-2.ensures)

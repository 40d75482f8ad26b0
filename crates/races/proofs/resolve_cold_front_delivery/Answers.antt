-- `races::resolve_cold_front_delivery` meets its contract. Assumes nothing.
use mathlib.Core.Path.{sym, ap, ◌∙◌, subst}
use native.Mathlib.Omega.{arith}
use Rattle.model.specs.Layout.{window_of}
use Rattle.model.specs.Races.{hedge_lost}
use Rattle.model.specs.Window.{Window, Step}
use Rattle.model.specs.declared.ColdFront.TheVariants.{Idle}
use Rattle.laws.specs.Sound.{Sound, SoundCold}
use Rattle.laws.specs.Parts.{sound_cold}
use Rattle.laws.specs.Whole.{Holds, holds_whole}
use Rattle.report_words.specs.Report.{releases_of}
use Rattle.races.specs.declared.Resolution.{Resolution}
use Rattle.races.specs.Hedges.{resolved, Seated, resolved_is}
use Rattle.races.proofs.resolve_cold_front_delivery.Goals as goal

pub hedge_lost-requires : goal.hedge_lost-requires
hedge_lost-requires c =
    let seats = (subst Seated c.in-Loses.is (c.resolve_as-r.ensures.1 c.args.clock (subst (SoundCold c.args.clock) (sym c.get_cold-cold.ensures) c.requires.1.races.cold))) in
    (c.set_cold-in-Loses.ensures.whole, subst (Sound c.args.clock) (sym c.set_cold-in-Loses.ensures.is) (sound_cold c.requires.1 Idle tt), seats.0, seats.1)

pub returns-in-Stays : goal.returns-in-Stays
unfolding releases_of
returns-in-Stays c =
    let t = ap (λ (y : Resolution). resolved y c.args.clock (window_of c.args.words.now)) (sym c.in-Stays.is) ∙ resolved_is c.resolve_as-r.result c.get_cold-cold.result c.args.h c.args.source c.args.clock (window_of c.args.words.now) c.get_cold-cold.ensures c.resolve_as-r.ensures.0 in
    (omega arith, subst (λ (s : Step). Holds s.window c.args.words.now) t (holds_whole c.args.words.now c.requires.0), ap (λ (s : Step). s.gone) t)

pub returns-in-Ends : goal.returns-in-Ends
unfolding releases_of
returns-in-Ends c =
    let t = ap (λ (y : Resolution). resolved y c.args.clock (window_of c.args.words.now)) (sym c.in-Ends.is) ∙ resolved_is c.resolve_as-r.result c.get_cold-cold.result c.args.h c.args.source c.args.clock (window_of c.args.words.now) c.get_cold-cold.ensures c.resolve_as-r.ensures.0 in
    (omega arith, subst (λ (s : Step). Holds s.window c.set_cold.new.words) t c.set_cold.ensures, ap (λ (s : Step). s.gone) t)

pub returns-in-Loses : goal.returns-in-Loses
returns-in-Loses c =
    let t = ap (λ (y : Resolution). resolved y c.args.clock (window_of c.args.words.now)) (sym c.in-Loses.is) ∙ resolved_is c.resolve_as-r.result c.get_cold-cold.result c.args.h c.args.source c.args.clock (window_of c.args.words.now) c.get_cold-cold.ensures c.resolve_as-r.ensures.0 in
    let e = ap (λ (v : Window). hedge_lost c.in-Loses.owner c.in-Loses.alternate c.args.clock v) c.set_cold-in-Loses.ensures.is ∙ t in
    (c.hedge_lost.ensures.0, subst (λ (s : Step). Holds s.window c.hedge_lost.new.words) e c.hedge_lost.ensures.1, c.hedge_lost.ensures.2 ∙ ap (λ (s : Step). s.gone) e)

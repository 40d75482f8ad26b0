-- `delivery_calls::credit_races` meets its contract. Assumes nothing.
use mathlib.Core.Path.{sym, ap, ◌∙◌, subst}
use Rattle.model.specs.Layout.{window_of}
use Rattle.model.specs.Window.{Step}
use Rattle.laws.specs.Sound.{Sound}
use Rattle.laws.specs.Whole.{Holds}
use Rattle.laws.proofs.RacesKept.{resolve_lets}
use Rattle.delivery_calls.specs.Credits.{hedge_let_go, hedge_let_none}
use Rattle.delivery_calls.proofs.credit_races.Goals as goal

pub returns-then-n-ne0 : goal.returns-then-n-ne0
returns-then-n-ne0 c =
    let by-resolve-cold-front-delivery = c.resolve_cold_front_delivery-n in
    let a = c.args in
    let t = hedge_let_go a.h a.source a.clock (window_of a.words.now) by-resolve-cold-front-delivery.result _ by-resolve-cold-front-delivery.ensures.2 c.if-n-ne0.true in
    (by-resolve-cold-front-delivery.ensures.0, subst (λ (s : Step). Holds s.window by-resolve-cold-front-delivery.new.words) t by-resolve-cold-front-delivery.ensures.1, by-resolve-cold-front-delivery.ensures.2 ∙ ap (λ (s : Step). s.gone) t)

pub record_prefix_probe_delivery-requires : goal.record_prefix_probe_delivery-requires
record_prefix_probe_delivery-requires c =
    let s = c in
    let a = s.args in
    let k = c.resolve_cold_front_delivery-n.ensures.1 in
    (k.whole, subst (Sound a.clock) (sym k.is) (resolve_lets a.h a.source s.requires.1).sound, s.requires.2)

pub returns : goal.returns
returns c =
    let by-resolve-cold-front-delivery = c.resolve_cold_front_delivery-n in
    let by-record-prefix-probe-delivery = c.record_prefix_probe_delivery in
    let a = c.args in
    let t = hedge_let_none a.h a.source a.clock (window_of a.words.now) by-resolve-cold-front-delivery.result _ by-resolve-cold-front-delivery.ensures.2 _ by-resolve-cold-front-delivery.ensures.1.is c.if-n-ne0.false in
    (by-record-prefix-probe-delivery.ensures.0, subst (λ (s : Step). Holds s.window by-record-prefix-probe-delivery.new.words) t by-record-prefix-probe-delivery.ensures.1, by-record-prefix-probe-delivery.ensures.2 ∙ ap (λ (s : Step). s.gone) t)

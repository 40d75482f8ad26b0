-- `probe_race::record_prefix_probe_delivery` meets its contract. Assumes nothing.
use mathlib.Core.Path.{sym, ap, ◌∙◌, subst}
use native.Mathlib.Omega.{arith}
use Rattle.model.specs.Layout.{window_of}
use Rattle.model.specs.Window.{Step}
use Rattle.laws.specs.Whole.{Holds, holds_whole, words_shaped}
use Rattle.report_words.specs.Report.{releases_of}
use Rattle.probe_race.specs.Race.{delivery_none, delivery_other, delivery_planned}
use Rattle.probe_race.proofs.record_prefix_probe_delivery.Goals as goal

pub returns-in_default : goal.returns-in_default
unfolding releases_of
returns-in_default c =
    let s = c in
    let a = s.args in
    let t = delivery_none a.h a.source a.clock (window_of a.words.now) c.get_probe-p.result c.get_probe-p.ensures c.in_default.is in
    (omega arith, subst (λ (s : Step). Holds s.window a.words.now) t (holds_whole a.words.now s.requires.0), ap (λ (s : Step). s.gone) t)

pub returns-then-n-i : goal.returns-then-n-i
unfolding releases_of
returns-then-n-i c =
    let s = c in
    let by-get-probe = c.get_probe-p in
    let by-place-of = c.place_of-i in
    let a = s.args in
    let t = delivery_other a.h a.source a.clock (window_of a.words.now) by-get-probe.result by-get-probe.ensures _ _ _ by-place-of.result c.in-Some.is by-place-of.ensures (omega (arith, c.if-n-i.true, c.planned_count-n.ensures)) in
    (omega arith, subst (λ (s : Step). Holds s.window a.words.now) t (holds_whole a.words.now s.requires.0), ap (λ (s : Step). s.gone) t)

pub race_progress-requires : goal.race_progress-requires
race_progress-requires c =
    let s = c in
    let a = s.args in
    (s.requires.0, s.requires.1, omega (arith, c.if-n-i.false, c.planned_count-n.ensures, (words_shaped a.words.now s.requires.0.long).planned), s.requires.2, sym c.get_probe-p.ensures ∙ c.in-Some.is)

pub returns : goal.returns
returns c =
    let by-get-probe = c.get_probe-p in
    let by-place-of = c.place_of-i in
    let by-race-progress = c.race_progress in
    let a = c.args in
    let t = delivery_planned a.h a.source a.clock (window_of a.words.now) by-get-probe.result by-get-probe.ensures _ _ _ by-place-of.result c.in-Some.is by-place-of.ensures (omega (arith, c.if-n-i.false, c.planned_count-n.ensures)) in
    (by-race-progress.ensures.0, subst (λ (s : Step). Holds s.window by-race-progress.new.words) t by-race-progress.ensures.1, by-race-progress.ensures.2 ∙ ap (λ (s : Step). s.gone) t)

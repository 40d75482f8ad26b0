-- `delivery_calls::credit_by` meets its contract. Assumes nothing.
use Rattle.std.specs.Prelude.{Option, ℕ}
use mathlib.Core.Path.{sym, ap, ◌∙◌, subst}
use native.Mathlib.Omega.{arith}
use Rattle.model.specs.Layout.{window_of}
use Rattle.model.specs.Calls.{credit_by}
use Rattle.model.specs.Window.{Step}
use Rattle.laws.specs.Sound.{SoundSource}
use Rattle.laws.specs.Whole.{Holds, holds_whole}
use Rattle.report_words.specs.Report.{releases_of}
use Rattle.delivery_calls.proofs.credit_by.Goals as goal

pub credit_delivery_from-requires : goal.credit_delivery_from-requires
credit_delivery_from-requires c =
    let s = c in
    (s.requires.0, s.requires.1, subst SoundSource c.in-Some.is s.requires.2)

pub returns-in-None : goal.returns-in-None
unfolding releases_of
returns-in-None c =
    let s = c in
    let a = s.args in
    let t = ap (λ (s : Option ℕ). credit_by s a.h a.height a.clock (window_of a.words.now)) (sym c.in-None.is) in
    (omega arith, subst (λ (s : Step). Holds s.window a.words.now) t (holds_whole a.words.now s.requires.0), ap (λ (s : Step). s.gone) t)

pub returns-in-Some : goal.returns-in-Some
returns-in-Some c =
    let by-credit-delivery-from = c.credit_delivery_from in
    let a = c.args in
    let t = ap (λ (s : Option ℕ). credit_by s a.h a.height a.clock (window_of a.words.now)) (sym c.in-Some.is) in
    (by-credit-delivery-from.ensures.0, subst (λ (s : Step). Holds s.window by-credit-delivery-from.new.words) t by-credit-delivery-from.ensures.1, by-credit-delivery-from.ensures.2 ∙ ap (λ (s : Step). s.gone) t)

-- `delivery_calls::credit_delivery_from` meets its contract. Assumes nothing.
use mathlib.Core.Path.{sym, ◌∙◌, subst}
use Rattle.model.specs.Layout.{window_of}
use Rattle.model.specs.Window.{Window}
use Rattle.laws.specs.Sound.{Sound}
use Rattle.laws.specs.Whole.{Holds}
use Rattle.calls.specs.Credits.{begun_sound}
use Rattle.delivery_calls.specs.Credits.{raced_sound, credit_window, credit_gone}
use Rattle.delivery_calls.proofs.credit_delivery_from.Goals as goal

pub credit_races-n-requires : goal.credit_races-n-requires
credit_races-n-requires c =
    let s = c in
    let a = s.args in
    let k = c.credit_begun.ensures in
    (k.whole, subst (Sound a.clock) (sym k.is) (begun_sound a.h a.source s.requires.1), s.requires.2)

pub progress_by-requires : goal.progress_by-requires
progress_by-requires c =
    let s = c in
    let a = s.args in
    let g = subst (Sound a.clock) (sym c.credit_begun.ensures.is) (begun_sound a.h a.source s.requires.1) in
    let k = c.credit_races-n.ensures.1 in
    (k.whole, subst (Sound a.clock) (sym k.is) (raced_sound a.h a.source a.clock _ g))

pub returns : goal.returns
returns c =
    let by-credit-begun = c.credit_begun in
    let by-credit-races = c.credit_races-n in
    let a = c.args in
    let w = window_of a.words.now in
    let e = credit_window a.h a.source a.height a.clock w _ by-credit-begun.ensures.is _ by-credit-races.ensures.1.is in
    (by-credit-races.ensures.0, subst (λ (v : Window). Holds v c.progress_by.new.words) e c.progress_by.ensures, by-credit-races.ensures.2 ∙ credit_gone a.h a.source a.height a.clock w _ by-credit-begun.ensures.is)

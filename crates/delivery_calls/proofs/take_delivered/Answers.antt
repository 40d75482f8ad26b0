-- `delivery_calls::take_delivered` meets its contract. Assumes nothing.
use mathlib.Core.Path.{sym, ap, ◌∙◌, subst}
use mathlib.Core.List.{List, ◌++◌}
use Rattle.model.specs.Layout.{window_of}
use Rattle.model.specs.Window.{Window}
use Rattle.model.specs.declared.Release.{Release}
use Rattle.laws.specs.Sound.{Sound}
use Rattle.laws.specs.Whole.{Holds}
use Rattle.delivery_calls.specs.Receives.{delivered, removed_sound, taken_window, taken_gone, taken_room}
use native.Mathlib.Omega.{arith}
use Rattle.delivery_calls.proofs.take_delivered.Goals as goal

pub remove_pending_by-requires : goal.remove_pending_by-requires
remove_pending_by-requires c =
    let s = c in
    (s.requires.0, (s.requires.1, omega (arith, s.told-gone)))

pub credit_by-n-requires : goal.credit_by-n-requires
credit_by-n-requires c =
    let s = c in
    let a = s.args in
    let k = c.remove_pending_by.ensures.1 in
    (k.whole, subst (Sound a.clock) (sym k.is) (removed_sound a.h a.source a.clock (window_of a.words.now) s.requires.1), s.requires.2)

pub put_delivered-requires : goal.put_delivered-requires
put_delivered-requires c =
    let s = c in
    let by-height-of = c.height_of-height in
    let by-credit-by = c.credit_by-n in
    let a = s.args in
    taken_room a.h a.source a.clock (window_of a.words.now) _ a.front by-height-of.result s.requires.3 by-height-of.ensures c.remove_pending_by.ensures.1.is by-credit-by.result _ s.requires.1 by-credit-by.ensures.2

pub returns : goal.returns
returns c =
    let s = c in
    let by-height-of = c.height_of-height in
    let by-remove-pending = c.remove_pending_by in
    let by-credit-by = c.credit_by-n in
    let a = s.args in
    let w = window_of a.words.now in
    let e = taken_window a.h a.source a.clock w _ a.front by-height-of.result s.requires.3 by-height-of.ensures by-remove-pending.ensures.1.is in
    let g = taken_gone a.h a.source a.clock w _ a.front by-height-of.result s.requires.3 by-height-of.ensures by-remove-pending.ensures.1.is in
    (subst (λ (v : Window). Holds v by-credit-by.new.words) e by-credit-by.ensures.1, c.put_delivered.ensures ∙ ap (λ (l : List Release). delivered a.front ++ l) by-credit-by.ensures.2 ∙ g)

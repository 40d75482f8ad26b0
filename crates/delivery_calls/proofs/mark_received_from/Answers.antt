-- `delivery_calls::mark_received_from` meets its contract. Assumes nothing.
use mathlib.Core.Path.{sym, subst}
use Prim.Native.Nat.{◌≤◌}
use native.Mathlib.Omega.{arith}
use Rattle.model.specs.Numbers.{max_estimate}
use Rattle.model.specs.Layout.{window_of}
use Rattle.model.specs.Window.{Window}
use Rattle.laws.specs.Whole.{sound_rises}
use Rattle.delivery_calls.specs.Receives.{ok_sound, taken_sound, receives}
use Rattle.delivery_calls.proofs.mark_received_from.Goals as goal

pub found-front-requires : goal.found-front-requires
found-front-requires c =
    let s = c in
    (s.requires.0, sound_rises s.args.clock (window_of s.args.words.now) s.requires.1)

pub take_delivered-n-requires : goal.take_delivered-n-requires
take_delivered-n-requires c =
    let s = c in
    (s.requires.0, s.requires.1, ok_sound s.args.source s.requires.3, c.found-front.ensures)

pub move_mean-requires : goal.move_mean-requires
move_mean-requires c =
    let s = c in
    let a = s.args in
    let k = c.take_delivered-n.ensures.0 in
    (k.whole, (subst (λ (v : Window). v.mean ≤ max_estimate) (sym k.is) (taken_sound a.h a.source a.clock (window_of a.words.now) s.requires.1).mean_most, omega (arith, s.requires.2)))

pub returns : goal.returns
returns c =
    let s = c in
    let by-found = c.found-front in
    let by-take-delivered = c.take_delivered-n in
    let a = s.args in
    receives a.h a.bytes a.source a.clock (window_of a.words.now) _ c.received.result by-found.result by-take-delivered.result _ _ s.requires.1 by-found.ensures by-take-delivered.ensures.0.is by-take-delivered.ensures.1 c.move_mean.ensures c.received.ensures

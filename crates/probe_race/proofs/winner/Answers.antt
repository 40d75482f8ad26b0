-- `probe_race::winner` meets its contract: none of the seats before s has won. Assumes nothing.
use mathlib.Core.Path.{refl, sym, ap, ◌∙◌}
use mathlib.Core.Bool.{true, false}
use Prim.Native.Nat.{◌-◌}
use native.Mathlib.Omega.{arith}
use native.Mathlib.Numerals.{add-one}
use Rattle.model.specs.Races.{has_won}
use Rattle.model.specs.Layout.{window_of}
use Rattle.laws.specs.Whole.{words_shaped}
use Rattle.probe_race.specs.Scans.{winner_turn, winner_end}
use Rattle.probe_race.proofs.winner.Goals as goal

pub loop-seat-init : goal.loop-seat-init
loop-seat-init c = refl

pub returns-then-has_won : goal.returns-then-has_won
returns-then-has_won c =
    let s = c in
    let by_loop = c.loop-seat in
    let l = (window_of s.args.words.now).races.racers in
    let e = winner_turn l by_loop.seat true (omega (arith, (words_shaped s.args.words.now s.told-words).racers)) (ap has_won (sym c.racer_of-racer.ensures) ∙ sym c.has_won.ensures ∙ c.if-has_won.true) in
    (sym (by_loop.invariant ∙ e), omega arith)

pub loop-seat-preserved : goal.loop-seat-preserved
loop-seat-preserved c =
    let s = c in
    let by_loop = c.loop-seat in
    let l = (window_of s.args.words.now).races.racers in
    let e = winner_turn l by_loop.seat false (omega (arith, (words_shaped s.args.words.now s.told-words).racers)) (ap has_won (sym c.racer_of-racer.ensures) ∙ sym c.has_won.ensures ∙ c.if-has_won.false) in
    rw add-one (by_loop.invariant ∙ e)

pub returns : goal.returns
returns c =
    let s = c in
    let l = (window_of s.args.words.now).races.racers in
    (sym (c.loop-seat.invariant ∙ winner_end l c.loop-seat.seat (omega (arith, (words_shaped s.args.words.now s.told-words).racers))), tt)

-- `check_window::seats` meets its contract: the OR of the seats passed has no top bit exactly when they fit. Assumes nothing.
use Rattle.std.proofs.Common.{◌≡◌, ℕ, ◌-◌, ◌^◌, ◌&&◌, ltb, sym, refl, ap, ◌∙◌, arith}
use Rattle.facts.specs.Words.{start, body, seat_key, cooling, racer, latest, seat_by, seat_fits, seats_fit}
use Rattle.facts.specs.Flags.{all_below, all_none, all_more}
use Rattle.facts.specs.Bits.{or_top}
use Rattle.check_window.proofs.seats.Goals as goal

pub loop-s-init : goal.loop-s-init
loop-s-init c = (refl, c.raced-most.ensures.0, c.raced-most.ensures.1, omega arith, sym (all_none _))

pub seat_top-t-requires : goal.seat_top-t-requires
seat_top-t-requires c = (omega arith, c.raced-most.ensures.1, c.requires.by_index_2 c.loop-s.s)

pub loop-s-preserved : goal.loop-s-preserved
unfolding seat_fits
loop-s-preserved c =
    let at-loop = c in
    let most = c.raced-most.ensures in
    let at-start = c in
    let w = at-start.args.w.now in
    let s = at-loop.loop-s.s in
    let turn : ltb c.seat_top-t.result (2 ^ 63) ≡ seat_fits w s = c.seat_top-t.ensures
    ∙ (λ i. seat_by (latest w) (most.0 i) (at-start.requires.by_index s i) (start w s) (body w s) (seat_key w s) (cooling w s) (racer w s)) in (
      refl,
      most.0,
      most.1,
      omega arith,
      or_top at-loop.loop-s.acc c.seat_top-t.result ∙ (λ i. at-loop.loop-s.invariant.4 i && turn i) ∙ sym (all_more (seat_fits w) s),
    )

pub returns : goal.returns
unfolding seats_fit
returns c =
    let at-loop = c in
    let e : at-loop.loop-s.s ≡ 256 = omega arith in
    at-loop.loop-s.invariant.4 ∙ ap (λ (n : ℕ). all_below n (seat_fits c.args.w.now)) e

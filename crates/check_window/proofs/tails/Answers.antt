-- `check_window::tails` meets its contract: the OR of the places passed is 0 exactly when they are blank. Assumes nothing.
use Rattle.std.proofs.Common.{◌≡◌, ◌+◌, ◌-◌, ◌&&◌, sym, refl, ◌∙◌, arith}
use Rattle.facts.specs.Words.{count, blank_at, tails_zero}
use Rattle.facts.specs.Flags.{all_below, all_none, all_more}
use Rattle.facts.specs.Bits.{or_zero}
use Rattle.check_window.proofs.tails.Goals as goal

pub loop-k-init : goal.loop-k-init
loop-k-init c = (c.to_usize-n.ensures, refl, omega arith, sym (all_none _))

pub loop-k-preserved : goal.loop-k-preserved
loop-k-preserved c =
    let at-loop = c.loop-k in (
      at-loop.invariant.0,
      refl,
      omega arith,
      or_zero at-loop.acc c.place-acc.result ∙ (λ i. at-loop.invariant.3 i && c.place-acc.ensures i) ∙ sym (all_more _ at-loop.k),
    )

pub returns : goal.returns
unfolding tails_zero
returns c =
    let at-loop = c.loop-k in
    let w = c.args.w.now in
    let e : at-loop.k ≡ 256 - count w = omega arith in
    at-loop.invariant.3 ∙ (λ i. all_below (e i) (λ j. blank_at w (at-loop.invariant.0 i + j)))

-- `check_head::any_bits` meets its contract: the OR of the words passed is 0 exactly when all of them are. Assumes nothing.
use native.Mathlib.Omega.{arith}
use mathlib.Core.Path.{◌≡◌, sym, ap, ◌∙◌}
use mathlib.Core.Bool.{Bool, ◌&&◌}
use Prim.Native.Nat.{◌-◌, ◌+◌}
use lib.ListN.{get_or}
use lib.Dec.{eqb}
use Rattle.facts.specs.Words.{zeros}
use Rattle.facts.specs.Head.{zeros_none, zeros_more}
use Rattle.facts.specs.Bits.{or_zero}
use borrow.Author.Rules.{rules}
use Rattle.check_head.proofs.any_bits.Goals as goal

pub loop-k-init : goal.loop-k-init
loop-k-init c = (search rules, zeros_none c.args.w.now c.args.a)

pub loop-k-preserved : goal.loop-k-preserved
loop-k-preserved c =
    let at = c in
    let w = at.args.w.now in
    let a = at.args.a in
    let k = at.loop-k.k in (
      search rules,
      or_zero at.loop-k.acc (get_or w (a + k) 0) ∙ ap (λ (b : Bool). b && eqb (get_or w (a + k) 0) 0) at.loop-k.invariant.1 ∙ sym (zeros_more w a k (omega arith)),
    )

pub returns : goal.returns
returns c =
    let at = c in
    let e : at.loop-k.k ≡ at.args.n = omega arith in
    at.loop-k.invariant.1 ∙ ap (zeros at.args.w.now at.args.a) e

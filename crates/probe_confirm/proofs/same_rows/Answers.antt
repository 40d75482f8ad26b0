-- `probe_confirm::same_rows` meets its contract. Assumes nothing.
use mathlib.Core.Path.{sym, ap, ◌∙◌}
use mathlib.Core.Bool.{Bool, ◌&&◌}
use Prim.Native.Nat.{◌+◌, ◌-◌}
use native.Mathlib.Omega.{arith}
use Rattle.model.specs.Hash.{same}
use Rattle.probe_confirm.specs.Confirms.{same_from, same_start, same_step, same_end}
use Rattle.probe_confirm.proofs.same_rows.Goals as goal

pub loop-i-init : goal.loop-i-init
loop-i-init c = same_start c.args.a c.args.b

pub offset_bounds-a-i : goal.offset_bounds-a-i
offset_bounds-a-i c = omega (arith, c.loop-i-test.true)

pub bounds-a-i : goal.bounds-a-i
bounds-a-i c = omega (arith, c.loop-i-test.true)

pub offset_bounds-b-i : goal.offset_bounds-b-i
offset_bounds-b-i c = omega (arith, c.loop-i-test.true)

pub bounds-b-i : goal.bounds-b-i
bounds-b-i c = omega (arith, c.loop-i-test.true)

pub returns-then-not-equal : goal.returns-then-not-equal
returns-then-not-equal c =
    let l = c.loop-i in
    let s = c in
    sym (l.invariant ∙ same_step s.args.a s.args.b l.i (omega (arith, c.loop-i-test.true))
    ∙ ap (λ (q : Bool). q && same_from s.args.a s.args.b (l.i + 1)) (sym (c.equal.ensures ∙ (λ i. same (c.hash_of.ensures i) (c.hash_of-in-loop-i.ensures i))) ∙ c.if-not-equal.true))

pub loop-i-preserved : goal.loop-i-preserved
loop-i-preserved c =
    let l = c.loop-i in
    let s = c in
    l.invariant ∙ same_step s.args.a s.args.b l.i (omega (arith, c.loop-i-test.true))
    ∙ ap (λ (q : Bool). q && same_from s.args.a s.args.b (l.i + 1)) (sym (c.equal.ensures ∙ (λ i. same (c.hash_of.ensures i) (c.hash_of-in-loop-i.ensures i))) ∙ c.if-not-equal.false)

pub returns : goal.returns
returns c = sym (c.loop-i.invariant ∙ same_end c.args.a c.args.b c.loop-i.i (omega (arith, c.loop-i-test.false)))

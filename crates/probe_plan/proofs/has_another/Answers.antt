-- `probe_plan::has_another` meets its contract. Assumes nothing.
use mathlib.Core.Path.{◌≡◌, sym, ap, ◌∙◌}
use mathlib.Core.Bool.{true, false, not}
use Prim.Native.Nat.{ℕ}
use native.Mathlib.Omega.{arith}
use native.Mathlib.Numerals.{add-one}
use lib.ListN.{length, drop}
use lib.Dec.{eqb}
use borrow.Author.Tests.{eq-eqb, ne_eqb}
use Rattle.model.specs.Lists.{any}
use Rattle.model.specs.Layout.{window_of, blank}
use Rattle.model.specs.declared.Entry.{Entry}
use Rattle.state_races.specs.Hedges.{any_turn, any_end}
use Rattle.probe_plan.proofs.has_another.Goals as goal

pub returns-then-e-owner : goal.returns-then-e-owner
returns-then-e-owner c =
    let l = (window_of c.args.words.now).queue.pending in
    let owner = c.args.owner in
    sym (c.loop-i.invariant ∙ any_turn (λ e. not (eqb e.owner owner)) l c.loop-i.i blank true (omega (arith, c.pending_count-n.ensures.0)) (ap (λ (e : Entry). not (eqb e.owner owner)) (sym c.entry_at-e.ensures) ∙ ap not (ne_eqb _ _ c.if-e-owner.true)))

pub loop-i-preserved : goal.loop-i-preserved
loop-i-preserved c =
    let l = (window_of c.args.words.now).queue.pending in
    let owner = c.args.owner in
    c.loop-i.invariant ∙ rw add-one (any_turn (λ e. not (eqb e.owner owner)) l c.loop-i.i blank false (omega (arith, c.pending_count-n.ensures.0)) (ap (λ (e : Entry). not (eqb e.owner owner)) (sym c.entry_at-e.ensures) ∙ ap not (eq-eqb _ _ c.if-e-owner.false)))

pub returns : goal.returns
returns c =
    let l = (window_of c.args.words.now).queue.pending in
    let owner = c.args.owner in
    let q : c.loop-i.i ≡ length l = omega (arith, c.pending_count-n.ensures.0) in
    sym (c.loop-i.invariant ∙ ap (λ (i : ℕ). any (λ e. not (eqb e.owner owner)) (drop i l)) q ∙ any_end (λ e. not (eqb e.owner owner)) l)

-- `records::parting` meets its contract: at the loop's head the record before `lo` comes before the hash, and the one at `hi` does not. Assumes
-- nothing.
use mathlib.Core.Path.{◌≡◌, sym, ap, ◌∙◌}
use mathlib.Core.Bool.{true, false}
use mathlib.Core.List.{List}
use Prim.Native.Nat.{ℕ, ◌+◌, ◌-◌, ◌/◌, ◌≤◌, ◌<◌}
use native.Mathlib.Omega.{arith}
use lib.ListN.{length, drop, get_or}
use Rattle.model.specs.Lists.{count}
use Rattle.model.specs.Hash.{same, less}
use Rattle.model.specs.Layout.{blank, entry_at, decode}
use Rattle.laws.specs.Rows.{length_live, live_at}
use Rattle.model.specs.declared.Entry.{Entry}
use Rattle.model.specs.declared.Hash.{Hash}
use Rattle.records.proofs.parting.Invariants.{L}
use Rattle.records.proofs.parting.Goals as goal

-- the record at k
at : (m k : ℕ) (ws : List ℕ) (h : Hash) → k < m → m ≤ 256 → less (get_or (L m ws) k blank).hash h ≡ less (entry_at (drop k ws)).hash h
at m k ws h lt le = ap (λ (e : Entry). less e.hash h) (live_at m k ws lt le)

pub loop-lo-init : goal.loop-lo-init
loop-lo-init c = record { order = omega arith; top = omega arith; before = λ k e. absurd (omega (arith, e)); from = λ l. absurd (omega (arith, l)) }

pub overflow_add-mid : goal.overflow_add-mid
overflow_add-mid c = omega arith

pub overflow_add-lo : goal.overflow_add-lo
overflow_add-lo c = omega arith

pub loop-lo-smaller-then-comes_before : goal.loop-lo-smaller-then-comes_before
loop-lo-smaller-then-comes_before c = omega arith

pub loop-lo-preserved-then-comes_before : goal.loop-lo-preserved-then-comes_before
loop-lo-preserved-then-comes_before c =
    let at-loop = c in
    let at-start = at-loop in
    let m = at-start.args.count in
    let ws = at-start.args.words.now in
    let h = at-start.args.h in
    let inv = at-loop.loop-lo.invariant in
    let k = (at-loop.loop-lo.lo + at-loop.loop-lo.hi) / 2 in
    let less-at : less (get_or (L m ws) k blank).hash h ≡ true =
    at m k ws h (omega (arith, inv.top)) (omega arith) ∙ sym c.comes_before.ensures ∙ c.if-comes_before.true in
    record {
      order = omega arith;
      top = inv.top;
      before = λ j e. let same : j ≡ k = omega (arith, e) in ap (λ (n : ℕ). less (get_or (L m ws) n blank).hash h) same ∙ less-at;
      from = inv.from;
    }

pub loop-lo-smaller : goal.loop-lo-smaller
loop-lo-smaller c = omega arith

pub loop-lo-preserved : goal.loop-lo-preserved
loop-lo-preserved c =
    let at-loop = c in
    let at-start = at-loop in
    let m = at-start.args.count in
    let ws = at-start.args.words.now in
    let h = at-start.args.h in
    let inv = at-loop.loop-lo.invariant in
    let k = (at-loop.loop-lo.lo + at-loop.loop-lo.hi) / 2 in
    record {
      order = omega arith;
      top = omega (arith, inv.top);
      before = inv.before;
      from = λ l. at m k ws h l (omega arith) ∙ sym c.comes_before.ensures ∙ c.if-comes_before.false;
    }

pub returns : goal.returns
unfolding decode
returns c =
    let at-loop = c in
    let at-start = at-loop in
    let m = at-start.args.count in
    let ws = at-start.args.words.now in
    let inv = at-loop.loop-lo.invariant in
    let long : length (L m ws) ≡ m = length_live m ws (omega arith) in
    let same : at-loop.loop-lo.hi ≡ at-loop.loop-lo.lo = omega (arith, inv.order) in
    record {
      within = omega (arith, inv.order, inv.top);
      before = inv.before;
      from = λ l. ap (λ (n : ℕ). less (get_or (L m ws) n blank).hash at-start.args.h) (sym same) ∙ inv.from (omega (arith, l));
    }

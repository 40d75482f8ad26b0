-- `expiry::lowest_late` meets its contract: at the loop's head `best` is the place of the lowest late record from i on. Assumes nothing.
use Rattle.std.specs.Prelude.{Some}
use mathlib.Core.Path.{◌≡◌, refl, sym, ap, ◌∙◌}
use mathlib.Core.Logic.{inl, inr}
use mathlib.Core.Bool.{Bool, true, false}
use mathlib.Core.List.{List}
use Prim.Native.Nat.{ℕ, suc, ◌+◌, ◌-◌, ◌≤◌, ◌<◌}
use native.Mathlib.Omega.{arith}
use lib.ListN.{take, drop, get_or}
use borrow.Author.Tests.{lt-ltb, le-ltb, le-leb, lt-leb}
use Rattle.model.specs.Lists.{count, select}
use Rattle.model.specs.Records.{lowest, lower}
use Rattle.model.specs.Layout.{entry_at, rows, decode}
use Rattle.laws.specs.Numbers.{both}
use Rattle.laws.specs.Rows.{rows_at, live_cons, live_end, word_at}
use Rattle.model.specs.declared.Entry.{Entry}
use Rattle.records.specs.Places.{front_at}
use Rattle.expiry.specs.Late.{late}
use Rattle.expiry.proofs.lowest_late.Invariants.{from, Lowest, none, some}
use Rattle.expiry.proofs.lowest_late.Goals as goal

module _ (p : Entry → Bool) (ws : List ℕ) (m i j : ℕ) (e : i ≡ suc j) (k : m ≤ 256) (h : i ≤ m) where
  -- what is lowest from j on, by whether p holds of the record there
  holds : p (entry_at (drop j ws)) ≡ true → from p ws m j ≡ lower (entry_at (drop j ws)) (from p ws m i)
  unfolding lowest select
  holds q =
      ap (λ (l : List Entry). lowest (select p l)) (live_cons m j ws (omega arith) k)
      ∙ rw q (ap (λ (n : ℕ). lower (entry_at (drop j ws)) (from p ws m n)) (sym e))

  fails : p (entry_at (drop j ws)) ≡ false → from p ws m j ≡ from p ws m i
  unfolding lowest select
  fails q = ap (λ (l : List Entry). lowest (select p l)) (live_cons m j ws (omega arith) k) ∙ rw q (ap (from p ws m) (sym e))

  height : (entry_at (drop j ws)).height ≡ get_or ws (j + 1536) 0
  height = word_at j ws 6 (omega arith)

  -- a turn: the record at j is as low, and p holds of it
  down : (best low : ℕ) → get_or ws (j + 1536) 0 ≤ low → p (entry_at (drop j ws)) ≡ true → Lowest p ws m best low i → Lowest p ws m j (get_or ws (j + 1536) 0) j
  down best low le q (none a b f) = some (omega arith) (holds q ∙ ap (lower (entry_at (drop j ws))) f) height
  down best low le q (some a f g) =
      some (omega arith)
      (holds q ∙ ap (lower (entry_at (drop j ws))) f ∙ rw (le-leb (entry_at (drop j ws)).height (entry_at (drop best ws)).height (omega (arith, height, g)))) height

  -- or p does not hold of it
  passes : (best low : ℕ) → p (entry_at (drop j ws)) ≡ false → Lowest p ws m best low i → Lowest p ws m best low j
  passes best low q (none a b f) = none a b (fails q ∙ f)
  passes best low q (some a f g) = some a (fails q ∙ f) g

  -- or it is higher
  stays : (best low : ℕ) → low < get_or ws (j + 1536) 0 → get_or ws (j + 1536) 0 < 18446744073709551616 → Lowest p ws m best low i → Lowest p ws m best low j
  stays best low lt fits (none a b f) = absurd (omega (arith, b))
  stays best low lt fits (some a f g) = some a (elim (both (p (entry_at (drop j ws)))) [
    | inl q ↦ holds q ∙ ap (lower (entry_at (drop j ws))) f ∙ rw (lt-leb (entry_at (drop j ws)).height (entry_at (drop best ws)).height (omega (arith, height, g)))
    | inr q ↦ fails q ∙ f
  ]) g

done : (p : Entry → Bool) (ws : List ℕ) (m best low i : ℕ) → i ≡ 0 → m ≤ 256 → Lowest p ws m best low i
    → lowest (select p (take m (rows 256 ws))) ≡ front_at m best (rows 256 ws)
unfolding front_at
done p ws m best low i z k (none a b f) = rw (le-ltb best m (omega (arith, a))) (ap (from p ws m) (sym z) ∙ f)
done p ws m best low i z k (some a f g) = rw (lt-ltb best m a) (ap (from p ws m) (sym z) ∙ f ∙ ap Some (sym (rows_at 256 best ws (omega arith))))

pub loop-i-init : goal.loop-i-init
unfolding lowest select
loop-i-init c =
    let a = c.args in
    let ws = a.words.now in
    none refl refl (ap (λ (l : List Entry). lowest (select (late a.clock a.timeout (decode ws).starts) l)) (live_end a.count ws (omega arith)))

pub is_late-requires : goal.is_late-requires
is_late-requires c =
    let at-loop = c in
    let start = at-loop in
    (omega arith, start.requires.2 (at-loop.loop-i.i - 1) (omega arith))

pub loop-i-preserved-then-is_late : goal.loop-i-preserved-then-is_late
loop-i-preserved-then-is_late c =
    let at-loop = c in
    let a = at-loop.args in
    let limit = at-loop.expiry_limit-limit.ensures in
    let l = at-loop.loop-i in
    let p = late a.clock a.timeout (decode a.words.now).starts in
    down p a.words.now a.count l.i (l.i - 1) (omega arith) (omega arith) (omega arith) l.best l.low (omega (arith, c.if-g-low.true)) (sym (c.is_late.ensures a.clock a.timeout limit) ∙ c.if-is_late.true) l.invariant

pub loop-i-preserved-else-is_late : goal.loop-i-preserved-else-is_late
loop-i-preserved-else-is_late c =
    let at-loop = c in
    let a = at-loop.args in
    let limit = at-loop.expiry_limit-limit.ensures in
    let l = at-loop.loop-i in
    let p = late a.clock a.timeout (decode a.words.now).starts in
    passes p a.words.now a.count l.i (l.i - 1) (omega arith) (omega arith) (omega arith) l.best l.low (sym (c.is_late.ensures a.clock a.timeout limit) ∙ c.if-is_late.false) l.invariant

pub loop-i-preserved : goal.loop-i-preserved
loop-i-preserved c =
    let at-loop = c in
    let a = at-loop.args in
    let l = at-loop.loop-i in
    let p = late a.clock a.timeout (decode a.words.now).starts in
    stays p a.words.now a.count l.i (l.i - 1) (omega arith) (omega arith) (omega arith) l.best l.low c.if-g-low.false (omega arith) l.invariant

pub returns : goal.returns
unfolding decode
returns c =
    let l = c.loop-i in
    let a = c.args in
    done (late a.clock a.timeout (decode a.words.now).starts) a.words.now a.count l.best l.low l.i (omega arith) (omega arith) l.invariant

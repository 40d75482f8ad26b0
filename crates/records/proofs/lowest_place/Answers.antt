-- `records::lowest_place` meets its contract: at the loop's head `best` is the place of the lowest from i on. Assumes nothing.
use Rattle.std.specs.Prelude.{None, Some, Option}
use mathlib.Core.Path.{◌≡◌, refl, sym, ap, ◌∙◌}
use mathlib.Core.List.{List}
use Prim.Native.Nat.{ℕ, suc, ◌+◌, ◌-◌, ◌≤◌, ◌<◌}
use native.Mathlib.Omega.{arith}
use lib.ListN.{take, drop, get_or}
use borrow.Author.Tests.{lt-ltb, le-ltb, le-leb, lt-leb}
use Rattle.model.specs.Lists.{count}
use Rattle.model.specs.Records.{lowest, lower}
use Rattle.model.specs.Layout.{entry_at, rows, decode}
use Rattle.laws.specs.Rows.{rows_at, live_cons, live_end, word_at}
use Rattle.records.specs.Places.{front_at}
use Rattle.records.proofs.lowest_place.Invariants.{Lowest, none, some}
use Rattle.records.proofs.lowest_place.Goals as goal
use Rattle.model.specs.declared.Entry.{Entry}

-- what is lowest from j on, by what is lowest after it
module _ (ws : List ℕ) (m i j : ℕ) (p : i ≡ suc j) (k : m ≤ 256) (h : i ≤ m) where
  from : (f : Option Entry) → lowest (drop i (take m (rows 256 ws))) ≡ f → lowest (drop j (take m (rows 256 ws))) ≡ lower (entry_at (drop j ws)) f
  unfolding lowest
  from f e =
      ap lowest (live_cons m j ws (omega arith) k) ∙ ap (λ (n : ℕ). lower (entry_at (drop j ws)) (lowest (drop n (take m (rows 256 ws))))) (sym p)
      ∙ ap (lower (entry_at (drop j ws))) e

  height : (entry_at (drop j ws)).height ≡ get_or ws (j + 1536) 0
  height = word_at j ws 6 (omega arith)

  end : i ≡ m → lowest (drop i (take m (rows 256 ws))) ≡ None
  unfolding lowest
  end e = ap (λ (n : ℕ). lowest (drop n (take m (rows 256 ws)))) e ∙ ap lowest (live_end m ws k)

  -- a turn: the record at j is as low
  down : (best low : ℕ) → get_or ws (j + 1536) 0 ≤ low → Lowest ws m best low i → Lowest ws m j (get_or ws (j + 1536) 0) j
  down best low le (none e f g) = some (omega arith) (omega arith) (from None (end e)) height
  down best low le (some b l e f) =
      some (omega arith) (omega arith) (from (Some (entry_at (drop best ws))) e ∙ rw (le-leb (entry_at (drop j ws)).height (entry_at (drop best ws)).height (omega (arith, height, f)))) height

  -- or it is higher
  stays : (best low : ℕ) → low < get_or ws (j + 1536) 0 → get_or ws (j + 1536) 0 < 18446744073709551616 → Lowest ws m best low i → Lowest ws m best low j
  stays best low lt fits (none e f g) = absurd (omega (arith, g))
  stays best low lt fits (some b l e f) =
      some (omega arith) l (from (Some (entry_at (drop best ws))) e ∙ rw (lt-leb (entry_at (drop j ws)).height (entry_at (drop best ws)).height (omega (arith, height, f)))) f

done : (ws : List ℕ) (m best low i : ℕ) → i ≡ 0 → m ≤ 256 → Lowest ws m best low i → lowest (take m (rows 256 ws)) ≡ front_at m best (rows 256 ws)
unfolding front_at lowest
done ws m best low i z k (none e f g) =
    rw (le-ltb best m (omega (arith, f))) (ap (λ (n : ℕ). lowest (drop n (take m (rows 256 ws)))) (sym z ∙ e) ∙ ap lowest (live_end m ws k))
done ws m best low i z k (some b l e f) =
    rw (lt-ltb best m l) (ap (λ (n : ℕ). lowest (drop n (take m (rows 256 ws)))) (sym z) ∙ e ∙ ap Some (sym (rows_at 256 best ws (omega arith))))

pub loop-i-init : goal.loop-i-init
loop-i-init c = none refl refl refl

pub loop-i-preserved-then-g-low : goal.loop-i-preserved-then-g-low
loop-i-preserved-then-g-low c =
    let a = c.args in
    let l = c.loop-i in
    down a.words.now a.count l.i (l.i - 1) (omega arith) (omega arith) (omega arith) l.best l.low c.if-g-low.true l.invariant

pub loop-i-preserved : goal.loop-i-preserved
loop-i-preserved c =
    let a = c.args in
    let l = c.loop-i in
    stays a.words.now a.count l.i (l.i - 1) (omega arith) (omega arith) (omega arith) l.best l.low c.if-g-low.false (omega arith) l.invariant

pub returns : goal.returns
unfolding decode
returns c =
    let l = c.loop-i in
    let a = c.args in
    done a.words.now a.count l.best l.low l.i (omega arith) (omega arith) l.invariant

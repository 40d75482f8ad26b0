-- `records::find` meets its contract. Assumes nothing.
use mathlib.Core.Path.{◌≡◌, sym, ap, ◌∙◌}
use mathlib.Core.Bool.{Bool}
use mathlib.Core.List.{List}
use Prim.Native.Nat.{ℕ, ◌≤◌, ◌<◌}
use native.Mathlib.Omega.{arith}
use lib.ListN.{take, drop, get_or}
use Rattle.model.specs.Hash.{same}
use Rattle.model.specs.Layout.{blank, entry_at, rows, decode}
use Rattle.laws.specs.Rows.{length_live, live_at}
use Rattle.model.specs.declared.Entry.{Entry}
use Rattle.model.specs.declared.Hash.{Hash}
use Rattle.records.proofs.find.Goals as goal

-- the record at k
at : (m k : ℕ) (ws : List ℕ) (h g : Hash) (b : Bool) → k < m → m ≤ 256 → g ≡ (entry_at (drop k ws)).hash → b ≡ same g h → same (get_or (take m (rows 256 ws)) k blank).hash h ≡ b
at m k ws h g b lt le e f = ap (λ (x : Entry). same x.hash h) (live_at m k ws lt le) ∙ ap (λ (x : Hash). same x h) (sym e) ∙ sym f

pub returns-then-equal : goal.returns-then-equal
unfolding decode
returns-then-equal c =
    let at_part = c in
    let a = at_part.args in
    let ws = a.words.now in
    let m = a.count in
    let k = at_part.parting-at.result in
    let lt : k < m = omega (arith, c.if-at-count.true) in
    let here = at m k ws a.h c.hash_of-g.result c.equal.result lt (omega arith) c.hash_of-g.ensures c.equal.ensures in
    (at_part.parting-at.ensures, (rw (length_live m ws (omega arith)) lt, here ∙ c.if-equal.true))

pub returns-else-equal : goal.returns-else-equal
unfolding decode
returns-else-equal c =
    let at_part = c in
    let a = at_part.args in
    let ws = a.words.now in
    let m = a.count in
    let k = at_part.parting-at.result in
    let lt : k < m = omega (arith, c.if-at-count.true) in
    let here = at m k ws a.h c.hash_of-g.result c.equal.result lt (omega arith) c.hash_of-g.ensures c.equal.ensures in
    (at_part.parting-at.ensures, λ l. here ∙ c.if-equal.false)

pub returns-else-at-count : goal.returns-else-at-count
unfolding decode
returns-else-at-count c =
    let at_part = c in
    let a = at_part.args in
    (at_part.parting-at.ensures, λ l. absurd (omega (arith, l, length_live a.count a.words.now (omega arith), c.if-at-count.false)))

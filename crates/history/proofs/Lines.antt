-- The book's lines against the window's entries: one bag, kept by each pick and each opened entry. Assumes nothing.
use Rattle.std.specs.Prelude.{◌≡◌, ℕ, suc, ◌+◌, ◌≤◌, eqb}
use Rattle.std.proofs.Math.Path.{refl}
use Rattle.std.proofs.Math.Logic.{inl, inr}
use mathlib.Core.List.{List, [], ◌∷◌, ◌++◌, append_assoc, append-nil}
use Rattle.std.proofs.Common.{arith}
use Rattle.model.specs.Hash.{key, same}
use Rattle.model.specs.declared.Hash.{Hash}
use Rattle.model.specs.declared.Entry.{Entry}
use Rattle.model.specs.declared.Release.{Release}
use Rattle.laws.specs.Numbers.{both}
use Rattle.laws.specs.Bag.{weigh, one, weigh_append, Same, Pick, pick_weigh}
use Rattle.laws.specs.Entries.{on, off, with_hash, on_none, off_none, on_self, off_self, Rising, rising_one, rising_pick, Picks, done, more}
use Rattle.history.specs.Book.{Line, waits, marked, Mark, opened_lines, pending_lines, gone_lines, marks, mark, mark_all, add_lines}

-- ---- the lines alone

-- every line waits or is marked
pub lines_split : (f : Entry → ℕ) (ls : List Line) → weigh f (opened_lines ls) ≡ weigh f (pending_lines ls) + weigh f (gone_lines ls)
unfolding weigh opened_lines pending_lines gone_lines
lines_split f [] = refl
lines_split f (waits e ∷ ls) = omega (arith, lines_split f ls)
lines_split f (marked e i k r ∷ ls) = omega (arith, lines_split f ls)

abbrev pub naming : ℕ → ℕ → ℕ → Entry → Mark
naming i k r e = record { call = i; place = k; reason = r; entry = e }

module _ (h : Hash) (i k r : ℕ) where
  -- where no hash waits twice, the mark takes its line from every weight of the waiting lines, and puts it to the marks
  mark_pending : (f : Entry → ℕ) (ls : List Line) → with_hash (key h) (pending_lines ls) ≤ 1 → weigh f (pending_lines (mark h i k r ls)) ≡ weigh (off (key h) f) (pending_lines ls)
  unfolding weigh pending_lines mark on off same
  mark_pending f [] b = refl
  mark_pending f (waits e ∷ ls) b = elim (both (eqb (key e.hash) (key h))) [
    | inl q ↦ let b' = rw q at b in rw q (omega (arith, off_none (key h) f (pending_lines ls) (omega arith)))
    | inr q ↦ let b' = rw q at b in rw q (omega (arith, mark_pending f ls (omega arith)))
  ]
  mark_pending f (marked e j l q ∷ ls) b = mark_pending f ls b

  mark_marks : (g : Mark → ℕ) (ls : List Line) → with_hash (key h) (pending_lines ls) ≤ 1
      → weigh g (marks (mark h i k r ls)) ≡ weigh g (marks ls) + weigh (on (key h) (λ e. g (naming i k r e))) (pending_lines ls)
  unfolding weigh pending_lines marks mark on same
  mark_marks g [] b = refl
  mark_marks g (waits e ∷ ls) b = elim (both (eqb (key e.hash) (key h))) [
    | inl q ↦ let b' = rw q at b in rw q (omega (arith, on_none (key h) (λ x. g (naming i k r x)) (pending_lines ls) (omega arith)))
    | inr q ↦ let b' = rw q at b in rw q (omega (arith, mark_marks g ls (omega arith)))
  ]
  mark_marks g (marked e j l q ∷ ls) b = omega (arith, mark_marks g ls b)

-- ---- the entries and the lines

pub record Agree (es : List Entry) (ls : List Line) (log : List Mark) : Type 0 where
  -- the entries are the unmarked lines
  pub same : Same es (pending_lines ls)
  -- the marks are the places of the reports
  pub names : Same (marks ls) log

-- a report that the call i counted, from the place k on
unfoldable pub told : ℕ → ℕ → List Release → List Mark
told i k [] = []
told i k (g ∷ gs) = naming i k g.reason g.entry ∷ told i (suc k) gs

-- one entry goes, and its line gets its mark
agree_out : (i k r : ℕ) {e : Entry} {l m : List Entry} {ls : List Line} {log : List Mark} → Rising 0 l → Pick e l m → Agree l ls log
    → Agree m (mark e.hash i k r ls) (log ++ (naming i k r e ∷ []))
unfolding weigh
agree_out i k r {e} {l} {m} {ls} {log} rise p a =
    let h : ℕ = key e.hash in
    let fresh : with_hash h m ≡ 0 = omega (arith, rising_one 0 l h rise, pick_weigh (on h one) p, on_self h one e refl) in
    let once : with_hash h (pending_lines ls) ≤ 1 = omega (arith, rising_one 0 l h rise, a.same (on h one)) in
    record {
      same = λ f. omega (arith, mark_pending e.hash i k r f ls once, a.same (off h f), pick_weigh (off h f) p, off_self h f e refl, off_none h f m fresh);
      names = λ g.
          let f : Entry → ℕ = λ x. g (naming i k r x) in
          omega (arith, mark_marks e.hash i k r g ls once, a.names g, a.same (on h f), pick_weigh (on h f) p, on_self h f e refl, on_none h f m fresh, weigh_append g log (naming i k r e ∷ []));
    }

-- a report
pub agree_outs : (i k : ℕ) {gs : List Release} {l m : List Entry} {ls : List Line} {log : List Mark} → Rising 0 l → Picks gs l m → Agree l ls log
    → Agree m (mark_all i k gs ls) (log ++ told i k gs)
unfolding mark_all told
agree_outs i k {log = log} rise done a = rw (append-nil log) a
agree_outs i k {log = log} rise (more {g = g} {gs = gs} p ps) a =
    rw append_assoc at (agree_outs i (suc k) (rising_pick 0 p rise) ps (agree_out i k g.reason rise p a))

-- entries are opened, each with a line of its own
pub agree_adds : (es : List Entry) {l m : List Entry} {ls : List Line} {log : List Mark} → ((f : Entry → ℕ) → weigh f m ≡ weigh f es + weigh f l) → Agree l ls log
    → Agree m (add_lines es ls) log
unfolding weigh pending_lines marks add_lines
agree_adds es {l} {m} {ls} {log} h a = record {
  same = λ f. omega (arith, h f, a.same f, adds_pending f es ls);
  names = λ g. omega (arith, a.names g, adds_marks g es ls);
}
  where
    adds_pending : (f : Entry → ℕ) (es : List Entry) (ls : List Line) → weigh f (pending_lines (add_lines es ls)) ≡ weigh f es + weigh f (pending_lines ls)
    adds_pending f [] ls = omega arith
    adds_pending f (e ∷ es) ls = omega (arith, adds_pending f es (waits e ∷ ls))

    adds_marks : (g : Mark → ℕ) (es : List Entry) (ls : List Line) → weigh g (marks (add_lines es ls)) ≡ weigh g (marks ls)
    adds_marks g [] ls = refl
    adds_marks g (e ∷ es) ls = adds_marks g es (waits e ∷ ls)

-- `report_words::gather` meets its contract: at the loop's head what was gathered, and what is left to gather from i on, is all that goes. Assumes nothing.
use mathlib.Core.Path.{◌≡◌, refl, sym, ap, ◌∙◌}
use mathlib.Core.List.{List, [], ◌∷◌, ◌++◌, append_assoc, append-nil}
use Prim.Native.Nat.{ℕ, suc, ◌+◌, ◌≤◌, ◌<◌}
use native.Mathlib.Numerals.{add-one}
use lib.ListN.{length, take, drop, get_or}
use lib.Seq.{get_or-take}
use Rattle.model.specs.Reasons.{release}
use Rattle.model.specs.Layout.{blank, decode, rows}
use Rattle.model.specs.declared.Entry.{Entry}
use Rattle.model.specs.declared.Release.{Release}
use Rattle.laws.specs.Rows.{length_live, live_end}
use Rattle.laws.specs.Marks.{gone_by, gone_one, gone_none, gone_end}
use Rattle.report_words.specs.Report.{releases_of}
use native.Mathlib.Omega.{arith}
use Rattle.report_words.proofs.gather.Invariants.{Inv}
use Rattle.report_words.proofs.gather.Goals as goal
use Rattle.report_words.proofs.gather.Goals.{then-m-ne0, else-m-ne0}

module _ (ws : List ℕ) (m : ℕ) (ms : List ℕ) (i n : ℕ) (k : m ≤ 256) (h : i < m) (o : length ms ≡ 256) where
  abbrev l : List Entry
  l = take m (decode ws).entries

  inside : i < length l
  unfolding decode
  inside = rw (length_live m ws k) h

  skip : (new : List ℕ) → get_or ms i 0 ≡ 0 → Inv ws m ms new i n → Inv ws m ms new (suc i) n
  skip new z v = record {
    few = omega (arith, v.few);
    is = ap (λ (r : List Release). releases_of n new ++ r) (sym (gone_none ms l i (omega arith) inside z)) ∙ v.is;
  }

  one : (new new' : List ℕ) (e : Entry) → (get_or ms i 0 ≡ 0 → ⊥) → e ≡ get_or (decode ws).entries i blank
      → releases_of (suc n) new' ≡ releases_of n new ++ (release e (get_or ms i 0) ∷ []) → Inv ws m ms new i n → Inv ws m ms new' (suc i) (suc n)
  one new new' e z q w v =
      let rest = gone_by (drop (suc i) ms) (drop (suc i) l) in
      let same : e ≡ get_or l i blank = q ∙ sym (get_or-take m (decode ws).entries i blank h) in
      record {
        few = omega (arith, v.few);
        is = ap (λ (r : List Release). r ++ rest) (w ∙ ap (λ (x : Entry). releases_of n new ++ (release x (get_or ms i 0) ∷ [])) same)
            ∙ append_assoc (releases_of n new) (release (get_or l i blank) (get_or ms i 0) ∷ []) rest
            ∙ ap (λ (r : List Release). releases_of n new ++ r) (sym (gone_one ms l i blank (omega arith) inside z)) ∙ v.is;
      }

ended : (ws : List ℕ) (m : ℕ) (ms new : List ℕ) (i n : ℕ) → m ≤ 256 → i ≡ m → Inv ws m ms new i n → releases_of n new ≡ gone_by ms (take m (decode ws).entries)
unfolding decode
ended ws m ms new i n k e v =
    sym (append-nil (releases_of n new))
    ∙ ap (λ (r : List Release). releases_of n new ++ r) (sym (ap (λ (j : ℕ). gone_by (drop j ms) (drop j (take m (rows 256 ws)))) e ∙ ap (gone_by (drop m ms)) (live_end m ws k) ∙ gone_end (drop m ms)))
    ∙ v.is

pub loop-i-init : goal.loop-i-init
unfolding releases_of
loop-i-init c = record { few = omega arith; is = refl }

pub loop-i-preserved : goal.loop-i-preserved
loop-i-preserved c =
    let v = c.loop-i in
    let a = c.args in
    let ws = a.words.now in
    let ms = a.marks.now in
    let h : v.i < a.count = c.loop-i-test.true in
    elim c.if-m-ne0.branch [
      | then-m-ne0 w ↦ rw (add-one, w.gone-is, w.n-is, add-one)
          (one ws a.count ms v.i v.n (omega arith) h (omega arith) v.gone w.put_release.new.gone w.entry_of-e.result w.if-m-ne0.true w.entry_of-e.ensures w.put_release.ensures v.invariant)
      | else-m-ne0 w ↦ rw (add-one, w.gone-is, w.n-is) (skip ws a.count ms v.i v.n (omega arith) h (omega arith) v.gone (omega (arith, w.if-m-ne0.false)) v.invariant)
    ]

pub returns : goal.returns
returns c =
    let v = c.loop-i in
    let a = c.args in
    (omega (arith, v.invariant.few), ended a.words.now a.count a.marks.now v.gone v.i v.n (omega arith) (omega arith) v.invariant)

-- `lend::words_of` meets its contract: at the loop's head the words have the first i places of the report. Assumes nothing.
use mathlib.Core.Path.{◌≡◌, refl, sym, ap, ◌∙◌}
use mathlib.Core.List.{List, [], ◌∷◌, ◌++◌}
use Prim.Native.Nat.{ℕ, suc, ◌-◌, ◌<◌}
use native.Mathlib.Numerals.{add-one}
use native.Mathlib.Omega.{arith}
use borrow.Author.Rules.{rules}
use lib.ListN.{length, get_or}
use lib.Seq.{take-suc, take_all}
use Rattle.model.specs.Reasons.{release}
use Rattle.model.specs.declared.Release.{Release}
use Rattle.report_words.specs.Report.{releases_of}
use Rattle.lend.specs.Blank.{blank}
use Rattle.lend.proofs.words_of.Invariants.{Inv}
use Rattle.lend.proofs.words_of.Goals as goal

one : (report : List Release) (gone gone' : List ℕ) (i : ℕ) → length report ≡ 256 → i < 256 → length gone' ≡ length gone
    → releases_of (suc i) gone' ≡ releases_of i gone ++ (release (get_or report i blank).entry (get_or report i blank).reason ∷ []) → Inv report gone i → Inv report gone' (suc i)
one report gone gone' i n h long w v =
    (long ∙ v.0, w ∙ ap (λ (l : List Release). l ++ (get_or report i blank ∷ [])) v.1 ∙ sym (take-suc report i blank (omega (arith, n))))

pub loop-i-init : goal.loop-i-init
unfolding releases_of
loop-i-init c = (refl, refl)

pub slice_bounds-put_release-end : goal.slice_bounds-put_release-end
slice_bounds-put_release-end c = sym c.loop-i.invariant.0

pub put_release-requires : goal.put_release-requires
put_release-requires c = omega (arith, c.loop-i.invariant.0)

pub loop-i-preserved : goal.loop-i-preserved
loop-i-preserved c =
    let v = c.loop-i in
    let a = c.args in
    rw add-one (one a.report v.gone c.put_release.new.gone v.i (search rules) (omega arith) c.put_release.auto.gone c.put_release.ensures v.invariant)

pub returns : goal.returns
returns c =
    let v = c.loop-i in
    let a = c.args in
    let e : v.i ≡ 256 = omega arith in
    let n : length a.report ≡ 256 = search rules in
    ap (λ (i : ℕ). releases_of i v.gone) (sym e) ∙ v.invariant.1 ∙ take_all v.i a.report (omega (arith, n, e))

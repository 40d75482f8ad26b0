-- `lend::words_of` meets its contract: at the loop's head the words have the first i places of the report. Assumes nothing.
use mathlib.Core.Path.{◌≡◌}
use mathlib.Core.List.{List}
use Prim.Native.Nat.{ℕ}
use lib.ListN.{length, take}
use Rattle.model.specs.declared.Release.{Release}
use Rattle.report_words.specs.Report.{releases_of}
use Rattle.lend.proofs.words_of.Given as goal

abbrev pub Inv : List Release → List ℕ → ℕ → Type 0
Inv report gone i = (length gone ≡ 2304) × (releases_of i gone ≡ take i report)

abbrev pub invariant-loop-i : goal.invariant-loop-i
invariant-loop-i l = Inv l.r-items l.gone l.i

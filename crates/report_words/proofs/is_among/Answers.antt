-- `report_words::is_among` meets its contract: a test of each number below n is a test of each of the first n releases. Assumes nothing.
use mathlib.Core.Bool.{Bool, true, false, ◌||◌}
use mathlib.Core.Path.{◌≡◌, refl, sym, ap, ◌∙◌}
use mathlib.Core.List.{List}
use Prim.Native.Nat.{ℕ, zero, suc, ◌+◌}
use Rattle.std.proofs.Math.Bool.{or_assoc}
use borrow.Author.Tests.{tests}
use Rattle.std.proofs.Common.{rules, arith}
use Rattle.std.proofs.lemmas.Iterator.{YieldsList-from_range}
use Rattle.std.proofs.lemmas.Iterator.Search.{any_from_yields_List}
use Rattle.std.specs.List.{list_any, range_with_len}
use Rattle.model.specs.Lists.{any}
use Rattle.model.specs.LettingGo.{is_entry}
use Rattle.model.specs.declared.Hash.{Hash}
use Rattle.model.specs.declared.Release.{Release}
use Rattle.report_words.specs.Report.{release_at, releases_of, any_more}
use Rattle.report_words.proofs.is_among.Goals as goal

-- the numbers from a on, with one more, which is j
one_more : (t : ℕ → Bool) (a n j : ℕ) → j ≡ a + n → list_any t (range_with_len a (suc n)) ≡ (list_any t (range_with_len a n) || t j)
one_more t a zero j e = elim (t a) as (λ b. (b || false) ≡ b) [ true ↦ refl | false ↦ refl ] ∙ ap t (omega arith)
one_more t a (suc n) j e =
    ap (λ (b : Bool). t a || b) (one_more t (a + 1) n j (omega arith)) ∙ sym (or_assoc (t a) (list_any t (range_with_len (a + 1) n)) (t j))

each : (p : Release → Bool) (core : List ℕ) (n : ℕ) → list_any (λ i. p (release_at core i)) (range_with_len 0 n) ≡ any p (releases_of n core)
unfolding any releases_of
each p core zero = refl
each p core (suc n) =
    one_more (λ i. p (release_at core i)) 0 n n (omega arith) ∙ ap (λ (b : Bool). b || p (release_at core n)) (each p core n) ∙ sym (any_more p (releases_of n core) (release_at core n))

pub returns : goal.returns
returns c =
    let a = c.args in
    let t : ℕ → Bool = λ i. is_entry a.owner a.h (release_at a.gone.now i) in
    any_from_yields_List t _ _ _ c.any.ensures.ran (YieldsList-from_range 0 a.n a.n refl (omega arith)) (λ x b q k. search (rules, tests)) ∙ each (is_entry a.owner a.h) a.gone.now a.n

-- `state_races::is_listed` meets its contract: a test of each number below n is a test of each hash. Assumes nothing.
use Rattle.std.proofs.Common.{◌≡◌, ℕ, suc, ◌+◌, ◌*◌, ◌<◌, List, [], ◌∷◌, length, get_or, refl, sym, ap, ◌∙◌, rules, arith}
use mathlib.Core.Bool.{Bool, ◌||◌}
use borrow.Author.Tests.{tests}
use Rattle.std.proofs.lemmas.Iterator.{YieldsList-from_range}
use Rattle.std.proofs.lemmas.Iterator.Search.{any_from_yields_List}
use Rattle.std.specs.List.{list_any, range_with_len}
use Rattle.model.specs.Lists.{any}
use Rattle.model.specs.Hash.{same, hash}
use Rattle.model.specs.Layout.{decode, hash_at}
use Rattle.model.specs.declared.Hash.{Hash}
use Rattle.state_races.proofs.is_listed.Goals as goal

-- the numbers from a on, each the place of a hash
each : (p : Hash → Bool) (f : ℕ → Hash) (a : ℕ) (hs : List Hash) → ((i : ℕ) → i < length hs → f (a + i) ≡ get_or hs i (hash 0 0 0 0))
    → list_any (λ i. p (f i)) (range_with_len a (length hs)) ≡ any p hs
unfolding any
each p f a [] e = refl
each p f a (x ∷ hs) e =
    let first : f a ≡ x = ap f (omega arith) ∙ e 0 (omega arith) in
    (λ j. p (first j) || list_any (λ i. p (f i)) (range_with_len (a + 1) (length hs)))
    ∙ ap (λ (b : Bool). p x || b) (each p f (a + 1) hs (λ i b. ap f (omega arith) ∙ e (suc i) (omega arith)))

pub returns : goal.returns
returns c = λ hs l.
    let a = c.args in
    let f : ℕ → Hash = λ i. hash_at (a.k + 4 * i) (decode a.words.now) in
    any_from_yields_List (λ i. same (f i) a.h) _ _ _ c.any.ensures.ran (YieldsList-from_range 0 a.n a.n refl (omega arith)) (λ x b q k. search (rules, tests))
    ∙ ap (λ (m : ℕ). list_any (λ i. same (f i) a.h) (range_with_len 0 m)) l.many
    ∙ each (λ x. same x a.h) f 0 hs (λ i b. ap f (omega arith) ∙ l.each i b)

-- `recorded::compare::Beside::is_same` meets its contract. Assumes nothing.
use Rattle.std.proofs.Common.{◌≡◌, ℕ, zero, suc, ◌+◌, ◌%◌, ◌^◌, ◌≤◌, Bool, true, false, ◌&&◌, ◌||◌, eqb, leb, List, [], ◌∷◌, ◌++◌, length, get_or, take, refl, sym, ap, ◌∙◌, arith, rules, take_all, zero-add}
use borrow.Author.Tests.{tests}
use Rattle.std.specs.List.{list_all, enumerate_from}
use Rattle.std.proofs.Math.Seq.{take-suc}
use Rattle.std.proofs.lemmas.Iterator.{YieldsList-from_slice}
use Rattle.std.proofs.lemmas.Iterator.Consumers.{YieldsList-from_enumerate}
use Rattle.std.proofs.lemmas.Iterator.Search.{all_from_yields_List}
use Rattle.std.proofs.lemmas.List.FromFn.{length-enumerate_from, get_or-enumerate_from}
use Rattle.std.proofs.lemmas.List.Folds.{list_all-append}
use Rattle.recorded.specs.Same.{skips, same_part}
use Rattle.recorded.proofs.compare.Beside.is_same.Goals as goal

-- a word, with its place, is as recorded or none of the part
abbrev test : (every first last : ℕ) (ns : List ℕ) (place n : ℕ) → ℕ × ℕ → Bool
test every first last ns place n p = leb n p.0 || skips every first last p.0 || eqb p.1 (get_or ns ((place + p.0) % 2 ^ 64) 0)

right : (b : Bool) → (b && true) ≡ b
right true = refl
right false = refl

one_more : (t : ℕ × ℕ → Bool) (xs : List (ℕ × ℕ)) (x : ℕ × ℕ) → list_all t (xs ++ (x ∷ [])) ≡ (list_all t xs && t x)
one_more t xs x = list_all-append t xs (x ∷ []) ∙ ap (λ (b : Bool). list_all t xs && b) (right (t x))

first_words : (every first last : ℕ) (ws ns : List ℕ) (place n k : ℕ) → k ≤ length ws
    → list_all (test every first last ns place n) (take k (enumerate_from 0 ws)) ≡ same_part every first last ws ns place n k
unfolding same_part
first_words every first last ws ns place n zero h = refl
first_words every first last ws ns place n (suc k) h =
    let t = test every first last ns place n in
    let es = enumerate_from 0 ws in
    let long = length-enumerate_from 0 ws in
    ap (list_all t) (take-suc es k (0, 0) (omega arith))
    ∙ one_more t (take k es) (get_or es k (0, 0))
    ∙ ap (λ (p : ℕ × ℕ). list_all t (take k es) && t p) (get_or-enumerate_from 0 ws k (0, 0) h ∙ ap (λ (i : ℕ). (i, get_or ws k 0)) (zero-add k))
    ∙ ap (λ (b : Bool). b && t (k, get_or ws k 0)) (first_words every first last ws ns place n k (omega arith))

pub returns : goal.returns
returns c =
    let a = c.args in
    let b = a.self in
    let ws = b.words.now in
    let es = enumerate_from 0 ws in
    let t = test b.every a.first a.last b.numbers.now b.part.at b.part.n in
    all_from_yields_List t _ _ c.all.result c.all.ensures.ran
    (YieldsList-from_enumerate (YieldsList-from_slice ws cc) cc) (λ x r q k. search (rules, tests))
    ∙ ap (list_all t) (sym (take_all (length ws) es (omega (arith, length-enumerate_from 0 ws))))
    ∙ first_words b.every a.first a.last ws b.numbers.now b.part.at b.part.n (length ws) (omega arith)

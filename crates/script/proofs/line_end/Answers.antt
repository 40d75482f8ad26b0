-- `script::line_end` meets its contract. Assumes nothing.
use Rattle.std.proofs.Common.{◌≡◌, ℕ, suc, ◌-◌, ◌≤◌, ◌<◌, List, [], ◌∷◌, Some, None, Bool, true, false, cond, drop, length, eqb, ltb, refl, sym, ap, ◌∙◌, inl, inr, arith, rules, ltb-true, ltb-false, length-drop, take_all, one-add}
use borrow.Author.Tests.{tests}
use Rattle.std.specs.List.{position, position_or_len}
use Rattle.std.proofs.lemmas.Iterator.{YieldsList-from_slice}
use Rattle.std.proofs.lemmas.Iterator.Search.{position_from_yields_List}
use Rattle.laws.specs.Numbers.{both}
use Rattle.script.specs.Text.{line_length}
use Rattle.script.proofs.line_end.Goals as goal
use Rattle.script.proofs.line_end.Goals.{After-position}

-- how many bytes stand before the line end, or all
abbrev before : List ℕ → ℕ
before l = position_or_len (λ (x : ℕ). eqb x 10) l

long : (l : List ℕ) → (before l < length l → line_length l ≡ suc (before l)) × (length l ≤ before l → line_length l ≡ length l)
unfolding line_length
long [] = (λ h. absurd (omega arith), λ h. refl)
long (b ∷ l) = elim (both (eqb b 10)) [
  | inl t ↦ rw t (λ h. refl, λ h. absurd (omega arith))
  | inr t ↦ rw (t, one-add) (λ h. ap suc ((long l).0 (omega arith)), λ h. ap suc ((long l).1 (omega arith)))
]

there : (t : Bool) (n k : ℕ) → cond t (Some n) None ≡ Some k → (t ≡ true) × (n ≡ k)
there true n k e = (refl, cc)
there false n k e = cc

nowhere : (t : Bool) (n : ℕ) → cond t (Some n) None ≡ None → t ≡ false
nowhere true n e = cc
nowhere false n e = refl

some_is : (l : List ℕ) (k : ℕ) → position (λ (x : ℕ). eqb x 10) l ≡ Some k → (line_length l ≡ suc k) × (k < length l)
some_is l k e =
    let t = there (ltb (before l) (length l)) (before l) k e in
    let h = ltb-true (before l) (length l) t.0 in
    (omega (arith, (long l).0 h), omega arith)

none_is : (l : List ℕ) → position (λ (x : ℕ). eqb x 10) l ≡ None → line_length l ≡ length l
none_is l e = (long l).1 (ltb-false (before l) (length l) (nowhere (ltb (before l) (length l)) (before l) e))

found : (c : After-position) → c.position.result ≡ position (λ (x : ℕ). eqb x 10) (drop c.args.from c.args.text.now)
found c =
    let rest = drop c.args.from c.args.text.now in
    let all = take_all (length c.args.text.now - c.args.from) rest (omega (arith, length-drop {A = ℕ})) in
    position_from_yields_List (λ (x : ℕ). eqb x 10) _ _ c.position.result c.position.ensures.ran (YieldsList-from_slice rest (c.iter.ensures.rest ∙ all))
    (λ x b q k. search (rules, tests))

pub returns-in-Some : goal.returns-in-Some
returns-in-Some c =
    let a = c.args in
    let s = some_is (drop a.from a.text.now) c.in-Some.k (sym (found (goal.at.returns-in-Some c).After-position) ∙ c.in-Some.is) in
    (omega arith, omega arith, omega (arith, length-drop {A = ℕ}))

pub returns-in-None : goal.returns-in-None
returns-in-None c =
    let a = c.args in
    let s = none_is (drop a.from a.text.now) (sym (found (goal.at.returns-in-None c).After-position) ∙ c.in-None.is) in
    (omega (arith, length-drop {A = ℕ}), c.requires, omega arith)

-- `records::at_height` meets its contract. Assumes nothing.
use Rattle.std.specs.Prelude.{None, Some, Option}
use mathlib.Core.Path.{◌≡◌, refl, sym, ap, ◌∙◌}
use mathlib.Core.Logic.{inl, inr}
use mathlib.Core.Bool.{Bool, true, false, cond, not}
use mathlib.Core.List.{List, [], ◌∷◌, map}
use Prim.Native.Nat.{ℕ, suc, ◌+◌, ◌-◌}
use native.Mathlib.Omega.{arith}
use lib.ListN.{length, take, drop, get_or}
use lib.Seq.{get_or-take}
use lib.Dec.{eqb, ltb}
use borrow.Author.Tests.{lt-ltb, le-ltb, ltb-true, ltb-false}
use Rattle.std.specs.List.{position_or_len}
use Rattle.std.proofs.Common.{rules, tests, Option, Some, None}
use Rattle.std.proofs.lemmas.Iterator.{YieldsList-from_slice}
use Rattle.std.proofs.lemmas.Iterator.Search.{position_from_yields_List}
use Rattle.model.specs.Records.{at_height}
use Rattle.model.specs.Layout.{blank, field, rows, decode}
use Rattle.model.specs.declared.Entry.{Entry}
use Rattle.laws.specs.Numbers.{both}
use Rattle.records.proofs.Live.{live_col}
use Rattle.records.proofs.at_height.Goals as goal
use Rattle.records.proofs.at_height.Goals.{After-position}

abbrev is : ℕ → ℕ → Bool
is h = λ x. eqb x h

-- the record at the place that was found
abbrev front_of : Option ℕ → List Entry → Option Entry
front_of None l = None
front_of (Some i) l = Some (get_or l i blank)

-- the first place of h among heights
abbrev place : ℕ → List ℕ → Option ℕ
place h xs = cond (ltb (position_or_len (is h) xs) (length xs)) (Some (position_or_len (is h) xs)) None

later : (b : Bool) (p : ℕ) (e : Entry) (l : List Entry) → front_of (cond b (Some p) None) l ≡ front_of (cond b (Some (suc p)) None) (e ∷ l)
later true p e l = refl
later false p e l = refl

ltb_suc : (p n : ℕ) → ltb (suc p) (suc n) ≡ ltb p n
ltb_suc p n = elim (both (ltb p n)) [
  | inl q ↦ lt-ltb (suc p) (suc n) (omega (arith, ltb-true p n q)) ∙ sym q
  | inr q ↦ le-ltb (suc p) (suc n) (omega (arith, ltb-false p n q)) ∙ sym q
]

turn : (b : Bool) (p q n : ℕ) (e : Entry) (l : List Entry) (rest : Option Entry) → q ≡ suc p → rest ≡ front_of (cond (ltb p n) (Some p) None) l
    → cond b (Some e) rest ≡ front_of (cond (ltb (cond (not b) q 0) (suc n)) (Some (cond (not b) q 0)) None) (e ∷ l)
turn true p q n e l rest s r = sym (ap (λ (t : Bool). front_of (cond t (Some 0) None) (e ∷ l)) (lt-ltb 0 (suc n) (omega arith)))
turn false p q n e l rest s r =
    r ∙ later (ltb p n) p e l ∙ ap (λ (t : Bool). front_of (cond t (Some (suc p)) None) (e ∷ l)) (sym (ltb_suc p n))
    ∙ ap (λ (x : ℕ). front_of (cond (ltb x (suc n)) (Some x) None) (e ∷ l)) (sym s)

at_place : (h : ℕ) (l : List Entry) → at_height h l ≡ front_of (place h (map (field 6) l)) l
unfolding at_height
at_place h [] = refl
at_place h (e ∷ l) =
    let p = position_or_len (is h) (map (field 6) l) in
    turn (eqb e.height h) p (1 + p) (length (map (field 6) l)) e l (at_height h l) (omega arith) (at_place h l)

-- what `position` answered
found : (c : After-position) → c.position.result ≡ place c.args.height (map (field 6) (take c.args.count (rows 256 c.args.words.now)))
found c =
    let a = c.args in
    let heights = take (1536 + a.count - 1536) (drop 1536 a.words.now) in
    let p : c.position.result ≡ place a.height heights =
    position_from_yields_List (is a.height) _ _ c.position.result c.position.ensures.ran (YieldsList-from_slice heights c.iter.ensures.rest) (λ x b q k. search (rules, tests)) in
    p ∙ ap (place a.height) (live_col 6 a.count a.words.now (omega arith) (omega arith) c.told-words)

pub returns-in-Some : goal.returns-in-Some
unfolding decode
returns-in-Some c =
    let a = c.args in
    let p = found (goal.at.returns-in-Some c).After-position in
    let live = take a.count (rows 256 a.words.now) in
    ap Some (c.entry_of.ensures ∙ sym (get_or-take a.count (rows 256 a.words.now) c.in-Some.i blank (omega (arith, c.in-Some.ensures.bound)))) ∙ ap (λ (o : Option ℕ). front_of o live) (sym c.in-Some.is ∙ p) ∙ sym (at_place a.height live)

pub returns-in-None : goal.returns-in-None
unfolding decode
returns-in-None c =
    let a = c.args in
    let live = take a.count (rows 256 a.words.now) in
    ap (λ (o : Option ℕ). front_of o live) (sym c.in-None.is ∙ found (goal.at.returns-in-None c).After-position) ∙ sym (at_place a.height live)

-- What the check of the words, and that of the clock, tell a call that goes on, and one that does not. Assumes nothing.
use Rattle.std.specs.Prelude.{◌≡◌, Bool, true, false, not, ◌&&◌, List, ℕ, ◌≤◌, ◌<◌, length}
use Rattle.std.proofs.Math.Path.{sym, ap}
use Rattle.std.proofs.Common.{◌∙◌, zero-le, eq-eqb, le-leb, leb-true, leb-false}
use Rattle.std.proofs.Math.Bool.{and-true}
use Rattle.std.proofs.lemmas.Bool.{not-true, not-false}
use Rattle.std.proofs.Math.Dec.{leb}
use Rattle.model.specs.Numbers.{max_clock, clock_ok}
use Rattle.model.specs.Layout.{is_window}
use Rattle.model.specs.Refusals.{is_long}

module _ (ws : List ℕ) (n : length ws ≡ 4096) (r : Bool) (e : r ≡ (is_long ws && is_window ws)) where
  said : r ≡ is_window ws
  said = e ∙ (λ j. eq-eqb (length ws) 4096 n j && is_window ws)

  pub no_window : not r ≡ true → is_window ws ≡ false
  no_window t = sym said ∙ not-true r t

  pub a_window : not r ≡ false → is_window ws ≡ true
  a_window t = sym said ∙ not-false r t

-- r is what was said of the clock c beside t, the last one read
module _ (r : Bool) (t last c : ℕ) (e : r ≡ clock_ok t c) (q : t ≡ last) where
  heard : clock_ok last c ≡ r
  heard = ap (λ (s : ℕ). clock_ok s c) (sym q) ∙ sym e

  pub not_now : not r ≡ true → clock_ok last c ≡ false
  not_now b = heard ∙ not-true r b

  pub in_time : not r ≡ false → clock_ok last c ≡ true
  in_time b = heard ∙ not-false r b

-- beside 0 the bound alone is left, as an opening has it
module _ (r : Bool) (c : ℕ) (e : r ≡ clock_ok 0 c) where
  alone : leb c max_clock ≡ r
  unfolding clock_ok
  alone = sym (and-true (leb c max_clock)) ∙ ap (λ (b : Bool). leb c max_clock && b) (sym (le-leb 0 c zero-le)) ∙ sym e

  pub too_high : not r ≡ true → max_clock < c
  too_high b = leb-false c max_clock (alone ∙ not-true r b)

  pub low_enough : not r ≡ false → c ≤ max_clock
  low_enough b = leb-true c max_clock (alone ∙ not-false r b)

-- What is refused before a call's clock, or before its content, and what is known where nothing was. Generic over what is checked then.
-- Assumes nothing.
use Rattle.std.specs.Prelude.{◌≡◌, refl, Bool, true, false, List, ℕ, suc, ◌≤◌, ◌<◌, length}
use Rattle.std.proofs.Common.{sym, ◌∙◌, arith, le-leb, eqb-true}
use Rattle.std.proofs.lemmas.Bool.{lt-leb}
use Rattle.laws.specs.Kept.{passed}
use Rattle.model.specs.Numbers.{max_body}
use Rattle.model.specs.Window.{Window}
use Rattle.model.specs.Layout.{window_of, is_window}
use Rattle.model.specs.Refusals.{Moment, timeless, checking, nothing, test, moment_ok, report_ok, body_refusal, refusal_at, is_long, window_refusal}

-- a test refuses, or the rest does
either : (k n x y : ℕ) (b : Bool) → (n ≡ x → n ≡ y) → n ≡ test k b x → n ≡ test k b y
either k n x y true f e = f e
either k n x y false f e = e

-- a test is passed, and the rest too
passing : (k n x y : ℕ) (b : Bool) → (0 ≡ x → n ≡ y) → 0 ≡ test (suc k) b x → n ≡ test (suc k) b y
passing k n x y true f e = f e
passing k n x y false f e = absurd (omega arith)

module _ (l : Bool) (m : Moment) (p : Bool) (f : Window → ℕ) (ws : List ℕ) (room n : ℕ) (e : n ≡ window_refusal (checking l m p nothing) ws room) where
  -- a number before 7 is the call's
  pub refused_before : (n ≡ 0 → ⊥) → n ≡ window_refusal (checking l m p f) ws room
  unfolding window_refusal refusal_at
  refused_before h =
      either 1 n _ _ (is_long ws) (either 2 n _ _ (is_window ws) (either 3 n _ _ (report_ok l room) (either 4 n _ _ (moment_ok m (window_of ws).clock) (either 6 n _ _ p (λ z. absurd (h z)))))) e

  -- without one the content decides
  pub refused_after : n ≡ 0 → f (window_of ws) ≡ window_refusal (checking l m p f) ws room
  unfolding window_refusal refusal_at
  refused_after z =
      let k = f (window_of ws) in
      passing 0 k _ _ (is_long ws) (passing 1 k _ _ (is_window ws) (passing 2 k _ _ (report_ok l room) (passing 3 k _ _ (moment_ok m (window_of ws).clock) (passing 5 k _ _ p (λ _. refl))))) (sym z ∙ e)

-- ---- 1, 2 and 3, before the clock is looked at

module _ (l : Bool) (ws : List ℕ) (room : ℕ) where
  pub before_clock : (m : Moment) (p : Bool) (f : Window → ℕ) (n : ℕ) → n ≡ window_refusal (checking l timeless true nothing) ws room → (n ≡ 0 → ⊥) → n ≡ window_refusal (checking l m p f) ws room
  unfolding window_refusal refusal_at
  before_clock m p f n e h = either 1 n _ _ (is_long ws) (either 2 n _ _ (is_window ws) (either 3 n _ _ (report_ok l room) (λ z. absurd (h z)))) e

  -- 4,096 words, a window, a report
  pub at_clock : 0 ≡ window_refusal (checking l timeless true nothing) ws room → (length ws ≡ 4096) × (is_window ws ≡ true) × (report_ok l room ≡ true)
  unfolding window_refusal refusal_at
  at_clock e =
      let a = passed 0 (is_long ws) _ (sym e) in
      let b = passed 1 (is_window ws) _ a.1 in
      let c = passed 2 (report_ok l room) _ b.1 in
      (eqb-true (length ws) 4096 a.0, b.0, c.0)

-- ---- 9

pub body_over : (bytes : ℕ) (w : Window) → max_body < bytes → 9 ≡ body_refusal bytes w
unfolding body_refusal
body_over bytes w h = rw (lt-leb bytes max_body h)

pub body_fits : (bytes : ℕ) (w : Window) → bytes ≤ max_body → 0 ≡ body_refusal bytes w
unfolding body_refusal
body_fits bytes w h = rw (le-leb bytes max_body h)

-- One law for each refusal: the lowest test that fails is the number. Generic over what a call checks. Assumes nothing.
use Rattle.std.specs.Prelude.{◌≡◌, refl, true, false, List, ℕ, ◌≤◌, ◌<◌, length}
use borrow.Author.Tests.{eq-eqb, ne_eqb, le-leb, lt-leb}
use Rattle.model.specs.Numbers.{max_clock}
use Rattle.model.specs.Layout.{settings_ok, window_of, is_window}
use Rattle.model.specs.Refusals.{Checks, keys_ok, moment_ok, report_ok, refusal_at, window_refusal, opening_refusal}
use Rattle.model.specs.declared.Settings.{Settings}

-- ---- a call or query on a window: 1, 2, 3, 4, 6, and 7 to 12 by its content

module _ (k : Checks) (ws : List ℕ) (room : ℕ) where
  pub refused_1 : (length ws ≡ 4096 → ⊥) → 1 ≡ window_refusal k ws room
  unfolding window_refusal
  refused_1 n = rw (ne_eqb (length ws) 4096 n)

  module _ (n : length ws ≡ 4096) where
    pub refused_2 : is_window ws ≡ false → 2 ≡ window_refusal k ws room
    unfolding window_refusal
    refused_2 v = rw (eq-eqb (length ws) 4096 n, v)

    module _ (v : is_window ws ≡ true) where
      pub refused_3 : report_ok k.lets_go room ≡ false → 3 ≡ window_refusal k ws room
      unfolding window_refusal refusal_at
      refused_3 r = rw (eq-eqb (length ws) 4096 n, v, r)

      module _ (r : report_ok k.lets_go room ≡ true) where
        pub refused_4 : moment_ok k.moment (window_of ws).clock ≡ false → 4 ≡ window_refusal k ws room
        unfolding window_refusal refusal_at
        refused_4 m = rw (eq-eqb (length ws) 4096 n, v, r, m)

        module _ (m : moment_ok k.moment (window_of ws).clock ≡ true) where
          pub refused_6 : k.peers ≡ false → 6 ≡ window_refusal k ws room
          unfolding window_refusal refusal_at
          refused_6 p = rw (eq-eqb (length ws) 4096 n, v, r, m, p)

          -- 7 to 12, or 0 for none
          pub by_content : k.peers ≡ true → k.content (window_of ws) ≡ window_refusal k ws room
          unfolding window_refusal refusal_at
          by_content p = rw (eq-eqb (length ws) 4096 n, v, r, m, p)

-- ---- 3, by the report's length

pub report_short : (room : ℕ) → room < 256 → report_ok true room ≡ false
unfolding report_ok
report_short room h = lt-leb 256 room h

pub report_long : (room : ℕ) → 256 ≤ room → report_ok true room ≡ true
unfolding report_ok
report_long room h = le-leb 256 room h

pub report_none : (room : ℕ) → report_ok false room ≡ true
unfolding report_ok
report_none room = refl

-- ---- an opening: 1, 4 by the bound alone, 5, 6

module _ (c : ℕ) (b : Settings) (keys ws : List ℕ) where
  pub opening_1 : (length ws ≡ 4096 → ⊥) → 1 ≡ opening_refusal c b keys ws
  unfolding opening_refusal
  opening_1 n = rw (ne_eqb (length ws) 4096 n)

  module _ (n : length ws ≡ 4096) where
    pub opening_4 : max_clock < c → 4 ≡ opening_refusal c b keys ws
    unfolding opening_refusal
    opening_4 h = rw (eq-eqb (length ws) 4096 n, lt-leb c max_clock h)

    module _ (l : c ≤ max_clock) where
      pub opening_5 : settings_ok b ≡ false → 5 ≡ opening_refusal c b keys ws
      unfolding opening_refusal
      opening_5 s = rw (eq-eqb (length ws) 4096 n, le-leb c max_clock l, s)

      module _ (s : settings_ok b ≡ true) where
        pub opening_6 : keys_ok keys ≡ false → 6 ≡ opening_refusal c b keys ws
        unfolding opening_refusal
        opening_6 p = rw (eq-eqb (length ws) 4096 n, le-leb c max_clock l, s, p)

        pub opening_0 : keys_ok keys ≡ true → 0 ≡ opening_refusal c b keys ws
        unfolding opening_refusal
        opening_0 p = rw (eq-eqb (length ws) 4096 n, le-leb c max_clock l, s, p)

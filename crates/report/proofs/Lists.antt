-- Lists: a writer that goes through a list from its start, one place at a time.
--     set_after    where a list begins with ps, the element after ps is set
--     next_place   with ps in the first i places of xs, and y set at i: ps and y in the first i + 1 places
--     length_written   the list is as long as it was
-- Assumes nothing.
use mathlib.Core.Path.{◌≡◌, refl, sym, ap, ◌∙◌}
use Prim.Native.Nat.{ℕ, zero, suc, ◌+◌, ◌<◌, ◌≤◌}
use native.Mathlib.Nat.{not-suc-le-zero, le_of_suc-le-suc}
use native.Mathlib.Omega.{arith}
use mathlib.Core.List.{List, [], ◌∷◌, ◌++◌}
use lib.ListN.{length, set, drop, length-append, length-drop}
use Rattle.model.specs.declared.Release.{Release}
use Rattle.report_words.specs.Report.{release_at, releases_of, length_releases}

module _ {A : Type 0} where
  set_after : (ps : List A) (z : A) (zs : List A) (y : A) → set (ps ++ (z ∷ zs)) (length ps) y ≡ (ps ++ (y ∷ [])) ++ zs
  set_after [] z zs y = refl
  set_after (a ∷ ps) z zs y = ap {B = List A} (λ r. a ∷ r) (set_after ps z zs y)

  -- where xs has a place i, what is left from i on begins with it
  drop_cons : (i : ℕ) (xs : List A) → i < length xs → (z : A) × (drop i xs ≡ z ∷ drop (suc i) xs)
  drop_cons i [] l = absurd (not-suc-le-zero l)
  drop_cons zero (x ∷ xs) l = (x, refl)
  drop_cons (suc i) (x ∷ xs) l = drop_cons i xs (le_of_suc-le-suc l)

  pub next_place : (ps : List A) (i : ℕ) (xs : List A) (y : A) → length ps ≡ i → i < length xs → set (ps ++ drop i xs) i y ≡ (ps ++ (y ∷ [])) ++ drop (suc i) xs
  next_place ps i xs y e l =
      ap (λ (t : List A). set (ps ++ t) i y) (drop_cons i xs l).1
      ∙ ap (λ (k : ℕ). set (ps ++ ((drop_cons i xs l).0 ∷ drop (suc i) xs)) k y) (sym e)
      ∙ set_after ps (drop_cons i xs l).0 (drop (suc i) xs) y

-- the list with the first i places written
abbrev pub written : ℕ → List ℕ → List Release → List Release
written i gone xs = releases_of i gone ++ drop i xs

pub length_written : (i : ℕ) (gone : List ℕ) (xs : List Release) → i ≤ length xs → length (written i gone xs) ≡ length xs
length_written i gone xs l = length-append (releases_of i gone) (drop i xs) ∙ omega (arith, length_releases i gone, length-drop i xs, l)

pub written_next : (i : ℕ) (gone : List ℕ) (xs : List Release) (r : Release) → r ≡ release_at gone i → i < length xs → set (written i gone xs) i r ≡ written (suc i) gone xs
unfolding releases_of
written_next i gone xs r e l = next_place (releases_of i gone) i xs r (length_releases i gone) l ∙ ap (λ (y : Release). (releases_of i gone ++ (y ∷ [])) ++ drop (suc i) xs) e

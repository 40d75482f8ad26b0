-- Tests of each element of a list, by place: parts of the words, and the rows of the columns. Assumes nothing.
use Rattle.std.specs.Prelude.{◌≡◌, Bool, true, length, take, drop}
use Rattle.std.proofs.Math.Path.{refl}
use Rattle.std.proofs.Common.{sym, ap, ◌∙◌, le_of_suc-le-suc, not-suc-le-zero, length-drop, get_or-take, get_or-drop, length-take-le, take-suc}
use mathlib.Core.List.{List, [], ◌∷◌, ◌++◌}
use Prim.Native.Nat.{ℕ, zero, suc, ◌+◌, ◌-◌, ◌≤◌, ◌<◌}
use native.Mathlib.Omega.{arith}
use Rattle.std.proofs.Math.ListN.{get_or}
use Rattle.model.specs.Lists.{all}
use Rattle.model.specs.Hash.{hash}
use Rattle.model.specs.Layout.{is_blank, blank, entry_at, rows}
use Rattle.model.specs.declared.Entry.{Entry}
use Rattle.laws.specs.Numbers.{and_left, and_right, and_both}
use Rattle.laws.specs.Rows.{length_rows, rows_at}
use Rattle.facts.specs.Flags.{Says, fold_every}
use Rattle.facts.specs.Words.{entry, blanks, blank_at}

-- ---- each element, by its place

module _ {A : Type 0} (p : A → Bool) (d : A) where
  pub all_get : (l : List A) → all p l ≡ true → (i : ℕ) → i < length l → p (get_or l i d) ≡ true
  unfolding all
  all_get [] e i h = absurd (not-suc-le-zero h)
  all_get (x ∷ l) e zero h = and_left (p x) (all p l) e
  all_get (x ∷ l) e (suc i) h = all_get l (and_right (p x) (all p l) e) i (le_of_suc-le-suc h)

  pub all_put : (l : List A) → ((i : ℕ) → i < length l → p (get_or l i d) ≡ true) → all p l ≡ true
  unfolding all
  all_put [] f = refl
  all_put (x ∷ l) f = and_both (p x) (all p l) (f 0 (omega arith)) (all_put l (λ i h. f (suc i) (omega arith)))

  -- a list whose places are known by a function
  pub says_places : (l : List A) (n : ℕ) (f : ℕ → A) → length l ≡ n → ((i : ℕ) → i < n → get_or l i d ≡ f i) → Says (all p l) ((i : ℕ) → i < n → p (f i) ≡ true)
  says_places l n f e q = record {
    gives = λ h i b. ap p (sym (q i b)) ∙ all_get l h i (omega (arith, e));
    from = λ g. all_put l (λ i b. let c : i < n = omega (arith, e) in ap p (q i c) ∙ g i c);
  }

-- ---- a part of the words

pub says_part : (p : ℕ → Bool) (ws : List ℕ) (a n : ℕ) → a + n ≤ length ws
    → Says (all p (take n (drop a ws))) ((k : ℕ) → k < n → p (get_or ws (a + k) 0) ≡ true)
says_part p ws a n h =
    says_places p 0 (take n (drop a ws)) n (λ k. get_or ws (a + k) 0) (length-take-le n (drop a ws) (omega (arith, length-drop a ws)))
    (λ k b. get_or-take n (drop a ws) k 0 b ∙ get_or-drop a ws k 0)

-- ---- the rows

module _ (ws : List ℕ) where
  word_of : (i k : ℕ) → get_or ws (k + i) 0 ≡ get_or (drop i ws) k 0
  word_of i k = let e : k + i ≡ i + k = omega arith in ap (λ (n : ℕ). get_or ws n 0) e ∙ sym (get_or-drop i ws k 0)

  entry_is : (i : ℕ) → entry ws i ≡ entry_at (drop i ws)
  unfolding entry entry_at
  entry_is i =
      let z : i ≡ 0 + i = omega arith in
      λ j. record {
        hash = hash ((ap (λ (n : ℕ). get_or ws n 0) z ∙ word_of i 0) j) (word_of i 256 j) (word_of i 512 j) (word_of i 768 j);
        owner = word_of i 1024 j;
        time = word_of i 1280 j;
        height = word_of i 1536 j;
        estimate = word_of i 1792 j;
      }

  pub row_is : (i : ℕ) → i < 256 → get_or (rows 256 ws) i blank ≡ entry ws i
  row_is i h = rows_at 256 i ws h ∙ sym (entry_is i)

  -- the first n, and one more
  pub length_first : (n : ℕ) → n ≤ 256 → length (take n (rows 256 ws)) ≡ n
  length_first n h = length-take-le n (rows 256 ws) (omega (arith, length_rows 256 ws))

  pub first_more : (n : ℕ) → n < 256 → take (suc n) (rows 256 ws) ≡ take n (rows 256 ws) ++ (entry ws n ∷ [])
  first_more n h =
      take-suc (rows 256 ws) n blank (omega (arith, length_rows 256 ws)) ∙ ap (λ (e : Entry). take n (rows 256 ws) ++ (e ∷ [])) (row_is n h)

  pub first_is : (n i : ℕ) → n ≤ 256 → i < n → get_or (take n (rows 256 ws)) i blank ≡ entry ws i
  first_is n i h b = get_or-take n (rows 256 ws) i blank b ∙ row_is i (omega arith)

  -- each of the first n, and each after them
  pub says_first : (p : Entry → Bool) (n : ℕ) → n ≤ 256 → Says (all p (take n (rows 256 ws))) ((i : ℕ) → i < n → p (entry ws i) ≡ true)
  says_first p n h = says_places p blank (take n (rows 256 ws)) n (entry ws) (length_first n h) (λ i b. first_is n i h b)

  pub says_rest : (p : Entry → Bool) (n : ℕ) → n ≤ 256 → Says (all p (drop n (rows 256 ws))) ((k : ℕ) → k < 256 - n → p (entry ws (n + k)) ≡ true)
  says_rest p n h =
      says_places p blank (drop n (rows 256 ws)) (256 - n) (λ k. entry ws (n + k)) (length-drop n (rows 256 ws) ∙ ap (λ (m : ℕ). m - n) (length_rows 256 ws))
      (λ k b. get_or-drop n (rows 256 ws) k blank ∙ row_is (n + k) (omega arith))

-- ---- blank places: 0 in each column

pub blank_is : (ws : List ℕ) (i : ℕ) → blank_at ws i ≡ is_blank (entry ws i)
unfolding blank_at blanks is_blank entry
blank_is ws i = fold_every (blanks ws i)

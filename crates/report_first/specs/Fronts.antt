-- Words moved nine places up, and a release before those that were written. Assumes nothing.
use Rattle.std.specs.Prelude.{◌≡◌, List, [], ◌∷◌, ◌++◌, length, get_or, set, take, drop, eqb}
use Rattle.std.proofs.Math.Path.{refl}
use Rattle.std.proofs.Common.{sym, ap, ◌∙◌, inl, inr, arith, get_or-take, get_or-drop, get_or-set_same, get_or-set_other, eqb-true}
use Prim.Native.Nat.{ℕ, zero, suc, ◌+◌, ◌-◌, ◌*◌, ◌≤◌, ◌<◌}
use Rattle.std.proofs.lemmas.Bool.{eqb-false}
use Rattle.column.proofs.Parts.{put, put_part, put_after}
use Rattle.model.specs.declared.Release.{Release}
use Rattle.laws.specs.Numbers.{both}
use Rattle.report_words.specs.Report.{release_from, release_at, releases_of}

-- the words of y from i on are those of x nine places before, the others as in x
pub record Moved (i : ℕ) (x y : List ℕ) : Type 0 where
  pub above : (k : ℕ) → i ≤ 9 + k → 9 + k < 2304 → get_or y (9 + k) 0 ≡ get_or x k 0
  pub below : (k : ℕ) → k < i → get_or y k 0 ≡ get_or x k 0

pub moved_start : (x : List ℕ) → Moved 2304 x x
moved_start x = record { above = λ k a b. absurd (omega arith); below = λ k b. refl }

pub moved_more : (i : ℕ) (x y : List ℕ) → 9 < i → i ≤ length y → Moved i x y → Moved (i - 1) x (set y (i - 1) (get_or y (i - 1 - 9) 0))
moved_more i x y h n m =
    let j = i - 1 in
    let v = get_or y (j - 9) 0 in
    record {
      above = λ k a b. elim (both (eqb (9 + k) j)) [
        | inl q ↦
            let e = eqb-true (9 + k) j q in
            let back : j - 9 ≡ k = omega arith in
            ap (λ (z : ℕ). get_or (set y j v) z 0) e ∙ get_or-set_same y j v 0 (omega arith) ∙ m.below (j - 9) (omega arith) ∙ ap (λ (z : ℕ). get_or x z 0) back
        | inr q ↦ let e = eqb-false (9 + k) j q in get_or-set_other y j (9 + k) v 0 e ∙ m.above k (omega arith) b
      ];
      below = λ k b. get_or-set_other y j k v 0 (λ (e : k ≡ j). omega arith) ∙ m.below k (omega arith);
    }

module _ (x y : List ℕ) where
  nine_later : (n j : ℕ) → get_or y (9 + (9 * n + j)) 0 ≡ get_or x (9 * n + j) 0 → get_or y (9 * suc n + j) 0 ≡ get_or x (9 * n + j) 0
  nine_later n j h = let e : 9 * suc n + j ≡ 9 + (9 * n + j) = omega arith in ap (λ (k : ℕ). get_or y k 0) e ∙ h

  -- the release after n others is the one that was the n-th
  release_later : (n : ℕ) → ((k : ℕ) → k < 9 * suc n → get_or y (9 + k) 0 ≡ get_or x k 0) → release_at y (suc n) ≡ release_at x n
  release_later n h =
      let at : (j : ℕ) → j < 9 → get_or y (9 * suc n + j) 0 ≡ get_or x (9 * n + j) 0 = λ j b. nine_later n j (h (9 * n + j) (omega arith)) in
      let first : get_or y (9 * suc n) 0 ≡ get_or x (9 * n) 0 = let e : 9 * suc n ≡ 9 + 9 * n = omega arith in ap (λ (k : ℕ). get_or y k 0) e ∙ h (9 * n) (omega arith) in
      λ i. record {
        entry = record {
          hash = record { a = first i; b = at 1 (omega arith) i; c = at 2 (omega arith) i; d = at 3 (omega arith) i };
          owner = at 4 (omega arith) i;
          time = at 5 (omega arith) i;
          height = at 6 (omega arith) i;
          estimate = at 7 (omega arith) i;
        };
        reason = at 8 (omega arith) i;
      }

  releases_front : (n : ℕ) → ((k : ℕ) → k < 9 * n → get_or y (9 + k) 0 ≡ get_or x k 0) → releases_of (suc n) y ≡ release_at y 0 ∷ releases_of n x
  unfolding releases_of
  releases_front zero h = refl
  releases_front (suc n) h =
      let rest = releases_front n (λ k b. h k (omega arith)) in
      let last = release_later n h in
      λ i. rest i ++ (last i ∷ [])

-- nine words over the first nine
pub front_put : (x y f : List ℕ) → length y ≡ 2304 → length f ≡ 9 → ((k : ℕ) → k < 2295 → get_or y (9 + k) 0 ≡ get_or x k 0) → (n : ℕ) → n < 256
    → releases_of (suc n) (put 0 9 y f) ≡ release_from f 0 ∷ releases_of n x
front_put x y f l m h n b =
    let z = put 0 9 y f in
    let fits : 0 + 9 ≤ length y = omega arith in
    let later : (k : ℕ) → k < 9 * n → get_or z (9 + k) 0 ≡ get_or x k 0 =
    λ k c. sym (get_or-drop 9 z k 0) ∙ ap (λ (r : List ℕ). get_or r k 0) (put_after 0 9 y f fits m 9 (omega arith)) ∙ get_or-drop 9 y k 0 ∙ h k (omega arith) in
    let at : (k : ℕ) → k < 9 → get_or z k 0 ≡ get_or f k 0 = λ k c. sym (get_or-take 9 z k 0 c) ∙ ap (λ (r : List ℕ). get_or r k 0) (put_part 0 9 y f fits m) in
    let first : release_at z 0 ≡ release_from f 0 = λ i. record {
      entry = record {
        hash = record { a = at 0 (omega arith) i; b = at 1 (omega arith) i; c = at 2 (omega arith) i; d = at 3 (omega arith) i };
        owner = at 4 (omega arith) i;
        time = at 5 (omega arith) i;
        height = at 6 (omega arith) i;
        estimate = at 7 (omega arith) i;
      };
      reason = at 8 (omega arith) i;
    } in
    releases_front x z n later ∙ ap (λ (g : Release). g ∷ releases_of n x) first

-- The head's conditions of the model as tests of words: one law for each row of tests, and one for each way of a group by its first word. Assumes nothing.
use Rattle.std.specs.Prelude.{◌≡◌, Bool, true, false, ◌&&◌, length, get_or, take, drop, ltb}
use Rattle.std.proofs.Math.Path.{refl, sym, ap}
use Rattle.std.proofs.Common.{◌∙◌, add-one, length-drop, drop-drop, take-suc}
use Rattle.std.proofs.Math.Bool.{cond, and-true}
use mathlib.Core.List.{List, [], ◌∷◌}
use Prim.Native.Nat.{ℕ, zero, suc, ◌+◌, ◌*◌, ◌-◌, ◌≤◌, ◌<◌}
use native.Mathlib.Omega.{arith}
use Rattle.std.proofs.Math.Seq.{get_or-drop, take-nil}
use Rattle.std.proofs.Math.Dec.{eqb, leb}
use borrow.Author.Tests.{eq-eqb, ne_eqb, le-leb, lt-leb, leb-true}
use Rattle.model.specs.Numbers.{max_clock, max_height, min_estimate, max_estimate, max_duration, max_byte_limit, max_count, max_pending, max_seat, max_front_mean}
use Rattle.model.specs.Lists.{all, every}
use Rattle.model.specs.Layout.{Table, is_0, word, words_at, decode, settings_of, counts_ok, settings_ok, small_ok, stall_ok, stuck_ok, cold_ok, cold_by, hedged_ok, observation_ok, observation_by}
use Rattle.model.specs.Layout as layout
use Rattle.facts.specs.Flags.{fold, fold_every, hold_row, all_snoc}
use Rattle.laws.specs.Every.{hold}
use Rattle.facts.specs.Words.{zeros, at, clock, latest, since_fits, probe_fits, later_fits, head_fits}
use Rattle.laws.specs.Numbers.{and_left}

pub refuted : (b : Bool) → (b ≡ true → ⊥) → false ≡ b
refuted true f = absurd (f refl)
refuted false f = refl

-- ---- words that are 0

pub zeros_none : (ws : List ℕ) (a : ℕ) → true ≡ zeros ws a 0
unfolding zeros all
zeros_none ws a = refl

-- a turn
pub zeros_more : (ws : List ℕ) (a k : ℕ) → a + k < length ws → zeros ws a (k + 1) ≡ (zeros ws a k && eqb (get_or ws (a + k) 0) 0)
unfolding zeros
zeros_more ws a k h =
    rw add-one (ap (all is_0) (take-suc (drop a ws) k 0 (omega (arith, length-drop a ws)))
    ∙ all_snoc is_0 (take k (drop a ws)) (get_or (drop a ws) k 0) ∙ ap (λ (x : ℕ). all is_0 (take k (drop a ws)) && eqb x 0) (get_or-drop a ws k 0))

drop_take : (k n : ℕ) (l : List ℕ) → drop k (take n l) ≡ take (n - k) (drop k l)
drop_take zero n l = let e : n - 0 ≡ n = omega arith in rw e
drop_take (suc k) zero l = let e : 0 - suc k ≡ 0 = omega arith in rw e
drop_take (suc k) (suc n) [] = sym (take-nil (suc n - suc k))
drop_take (suc k) (suc n) (x ∷ l) = let e : suc n - suc k ≡ n - k = omega arith in rw e (drop_take k n l)

-- ---- the head's words

module _ (ws : List ℕ) where
  pub word_at : (k : ℕ) → word k (decode ws) ≡ at ws k
  unfolding word decode
  word_at k = get_or-drop 3584 ws k 0

  -- all of them at once
  heads : ◌≡◌ {A = ℕ → ℕ} (at ws) (λ k. word k (decode ws))
  heads i k = sym (word_at k) i

  -- n words from k on
  pub part : (k n : ℕ) → zeros ws (3584 + k) n ≡ layout.zeros k n (decode ws)
  unfolding zeros layout.zeros words_at decode
  part k n = ap (λ (l : List ℕ). all is_0 (take n l)) (sym (drop-drop k 3584 ws))

  -- those of n words from k on that are after the first m
  after : (k n m : ℕ) → zeros ws (3584 + k + m) (n - m) ≡ all is_0 (drop m (words_at k n (decode ws)))
  unfolding zeros words_at decode
  after k n m =
      ap (λ (l : List ℕ). all is_0 (take (n - m) l)) (sym (drop-drop m (3584 + k) ws) ∙ ap (drop m) (sym (drop-drop k 3584 ws)))
      ∙ ap (all is_0) (sym (drop_take m n (drop k (drop 3584 ws))))

-- ---- rows of tests

unfoldable pub counts_row : (ℕ → ℕ) → List Bool
counts_row f =
    eqb (f 0) 1 ∷ leb (f 1) max_pending ∷ leb (f 2) max_clock ∷ leb (f 1) (f 4) ∷ leb (f 3) (f 5) ∷ leb min_estimate (f 6) ∷ leb (f 6) max_estimate
    ∷ leb (f 7) max_height ∷ []

unfoldable pub settings_row : (ℕ → ℕ) → List Bool
settings_row f =
    leb (f 8) max_pending ∷ leb (f 9) max_byte_limit ∷ leb (f 10) max_count ∷ leb (f 11) max_count ∷ leb (f 12) max_count ∷ leb (f 13) max_count
    ∷ leb (f 14) max_count ∷ leb (f 15) max_duration ∷ leb (f 16) max_duration ∷ leb (f 17) max_duration ∷ leb (f 18) max_duration
    ∷ leb (f 19) max_duration ∷ []

unfoldable pub small_row : ℕ → (ℕ → ℕ) → List Bool
small_row late f =
    leb (f 21) 1 ∷ leb (f 22) (suc max_front_mean) ∷ leb (f 23) late ∷ leb (f 24) max_duration ∷ leb (f 25) (suc max_seat) ∷ leb (f 26) (suc max_seat) ∷ []

-- a group since the stored time at k, with a word after it that is at most `most`
unfoldable since_row : ℕ → ℕ → ℕ → (ℕ → ℕ) → List Bool
since_row k most late f = leb (f k) late ∷ leb (f (k + 1)) most ∷ []

unfoldable pub waiting_row : ℕ → (ℕ → ℕ) → List Bool
waiting_row late f = leb (f 40) max_seat ∷ ltb 0 (f 41) ∷ leb (f 41) late ∷ []

unfoldable pub racing_row : (ℕ → ℕ) → List Bool
racing_row f = leb (f 40) max_seat ∷ leb (f 41) max_seat ∷ []

module _ (ws : List ℕ) where
  abbrev t : Table
  t = decode ws

  abbrev g : ℕ → ℕ
  g k = word k t

  pub counts_is : fold (counts_row (at ws)) ≡ counts_ok t
  unfolding counts_ok counts_row
  counts_is = fold_every (counts_row (at ws)) ∙ ap (λ (f : ℕ → ℕ). every (counts_row f)) (heads ws)

  pub settings_is : fold (settings_row (at ws)) ≡ settings_ok (settings_of t)
  unfolding settings_ok settings_of settings_row
  settings_is = fold_every (settings_row (at ws)) ∙ ap (λ (f : ℕ → ℕ). every (settings_row f)) (heads ws)

  -- a row that names the last clock too
  late : latest ws ≡ suc (word 2 t)
  late = add-one (clock ws) ∙ ap suc (sym (word_at ws 2))

  timed : (row : ℕ → (ℕ → ℕ) → List Bool) → fold (row (latest ws) (at ws)) ≡ every (row (suc (word 2 t)) g)
  timed row = fold_every (row (latest ws) (at ws)) ∙ (λ i. every (row (late i) (heads ws i)))

  pub small_is : fold (small_row (latest ws) (at ws)) ≡ small_ok t
  unfolding small_ok small_row
  small_is = timed small_row

  -- ---- groups, by their first word

  first : (k n : ℕ) → at ws k ≡ n → word k t ≡ n
  first k n e = word_at ws k ∙ e

  since_is : (k m : ℕ) → since_fits ws (3584 + k) m ≡ cond (is_0 (word k t)) (layout.zeros k 6 t) (every (since_row k m (suc (word 2 t)) g))
  unfolding since_fits since_row
  since_is k m =
      let e : 3584 + k + 1 ≡ 3584 + (k + 1) = omega arith in
      (λ i. cond (eqb (at ws k) 0) (zeros ws (3584 + k) 6) (fold (leb (at ws k) (latest ws) ∷ leb (get_or ws (e i) 0) m ∷ [])))
      ∙ (λ i. cond (eqb (heads ws i k) 0) (part ws k 6 i) (timed (since_row k m) i))

  pub stall_is : since_fits ws 3611 max_seat ≡ stall_ok t
  unfolding stall_ok since_row
  stall_is = since_is 27 max_seat

  pub stuck_is : since_fits ws 3617 max_height ≡ stuck_ok t
  unfolding stuck_ok since_row
  stuck_is = since_is 33 max_height

  pub cold_none : at ws 39 ≡ 0 → zeros ws 3623 7 ≡ cold_ok t
  unfolding cold_ok
  cold_none e = part ws 39 7 ∙ ap (λ (n : ℕ). cold_by n t) (sym (first 39 0 e))

  pub cold_waits : at ws 39 ≡ 1 → fold (waiting_row (latest ws) (at ws)) ≡ cold_ok t
  unfolding cold_ok waiting_row
  cold_waits e = timed waiting_row ∙ ap (λ (n : ℕ). cold_by n t) (sym (first 39 1 e))

  races : (n : ℕ) → (n ≡ 0 → ⊥) → (n ≡ 1 → ⊥) → (eqb n 2 && every (racing_row g)) ≡ cold_by n t
  unfolding racing_row
  races zero a b = absurd (a refl)
  races (suc zero) a b = absurd (b refl)
  races (suc (suc zero)) a b = refl
  races (suc (suc (suc n))) a b = rw (ne_eqb (suc (suc (suc n))) 2 (λ q. omega arith))

  pub cold_races : (at ws 39 ≡ 0 → ⊥) → (at ws 39 ≡ 1 → ⊥) → (eqb (at ws 39) 2 && fold (racing_row (at ws))) ≡ cold_ok t
  unfolding cold_ok
  cold_races a b =
      (λ i. eqb (at ws 39) 2 && (fold_every (racing_row (at ws)) ∙ ap (λ (f : ℕ → ℕ). every (racing_row f)) (heads ws)) i) ∙ races (at ws 39) a b
      ∙ ap (λ (n : ℕ). cold_by n t) (sym (word_at ws 39))

  -- a count that is too great
  pub hedged_many : (n : ℕ) → n ≡ at ws 46 → 2 < n → false ≡ hedged_ok t
  unfolding hedged_ok
  hedged_many n q h = refuted (hedged_ok t) (λ e. omega (arith, word_at ws 46, leb-true (word 46 t) 2 (hold _ e 0)))

  pub hedged_few : (n : ℕ) → n ≡ at ws 46 → n ≤ 2 → zeros ws (3631 + 4 * n) (8 - 4 * n) ≡ hedged_ok t
  unfolding hedged_ok every
  hedged_few n e h =
      rw (le-leb (word 46 t) 2 (omega (arith, word_at ws 46)))
      (after ws 47 8 (4 * n) ∙ ap (λ (n : ℕ). all is_0 (drop (4 * n) (words_at 47 8 t))) (e ∙ sym (word_at ws 46)) ∙ sym (and-true _))

  pub observation_none : at ws 55 ≡ 0 → zeros ws 3639 6 ≡ observation_ok t
  unfolding observation_ok
  observation_none e = part ws 55 6 ∙ ap (λ (n : ℕ). observation_by n t) (sym (first 55 0 e))

  seen : (n : ℕ) → (n ≡ 0 → ⊥) → (leb n 2 && leb (word 56 t) max_seat) ≡ observation_by n t
  seen zero a = absurd (a refl)
  seen (suc zero) a = refl
  seen (suc (suc zero)) a = refl
  seen (suc (suc (suc n))) a = rw (lt-leb (suc (suc (suc n))) 2 (omega arith))

  pub observation_some : (at ws 55 ≡ 0 → ⊥) → (leb (at ws 55) 2 && leb (at ws 56) max_seat) ≡ observation_ok t
  unfolding observation_ok
  observation_some a =
      ap (λ (n : ℕ). leb (at ws 55) 2 && leb n max_seat) (sym (word_at ws 56)) ∙ seen (at ws 55) a ∙ ap (λ (n : ℕ). observation_by n t) (sym (word_at ws 55))

  pub probe_none : at ws 61 ≡ 0 → zeros ws 3645 36 ≡ probe_fits t
  unfolding probe_fits
  probe_none e = rw (eq-eqb (word 61 t) 0 (first 61 0 e)) (part ws 61 36)

  -- a probe that is there, before its hashes
  probing : (at ws 61 ≡ 0 → ⊥) → eqb (word 61 t) 0 ≡ false
  probing e = ne_eqb (word 61 t) 0 (λ q. e (sym (word_at ws 61) ∙ q))

  pub probe_many : (at ws 61 ≡ 0 → ⊥) → (n : ℕ) → n ≡ at ws 63 → 8 < n → false ≡ probe_fits t
  unfolding probe_fits
  probe_many e n is h = rw (probing e) (refuted _ (λ q. omega (arith, word_at ws 63, leb-true (word 63 t) 8 (hold_row _ q 2))))

  -- b: whether the words after its hashes are 0
  pub probe_some : (at ws 61 ≡ 0 → ⊥) → (n : ℕ) → n ≡ at ws 63 → (b : Bool) → b ≡ zeros ws (3649 + 4 * n) (32 - 4 * n)
      → fold (leb (at ws 61) (latest ws) ∷ leb (at ws 62) max_seat ∷ leb n 8 ∷ leb (at ws 64) 255 ∷ b ∷ []) ≡ probe_fits t
  unfolding probe_fits
  probe_some e n q b z =
      let is = q ∙ sym (word_at ws 63) in
      let rest = z ∙ after ws 65 32 (4 * n) ∙ ap (λ (n : ℕ). all is_0 (drop (4 * n) (words_at 65 32 t))) is in
      rw (probing e) (λ i. fold (leb (heads ws i 61) (late i) ∷ leb (heads ws i 62) max_seat ∷ leb (is i) 8 ∷ leb (heads ws i 64) 255 ∷ rest i ∷ []))

  -- ---- what the other conditions stand on

  pub counts_count : counts_ok t ≡ true → at ws 1 ≤ 256
  unfolding counts_ok
  counts_count e = omega (arith, word_at ws 1, leb-true (word 1 t) max_pending (hold _ e 1))

  pub counts_clock : counts_ok t ≡ true → clock ws ≤ max_clock
  unfolding counts_ok
  counts_clock e = omega (arith, word_at ws 2, leb-true (word 2 t) max_clock (hold _ e 2))

  pub head_count : head_fits ws ≡ true → at ws 1 ≤ 256
  unfolding head_fits
  head_count e = counts_count (and_left (counts_ok t) (later_fits ws) e)

  pub head_clock : head_fits ws ≡ true → clock ws ≤ max_clock
  unfolding head_fits
  head_clock e = counts_clock (and_left (counts_ok t) (later_fits ws) e)

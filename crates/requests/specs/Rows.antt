-- `mark_requested` as the row of steps that the code takes. Assumes nothing.
use Rattle.std.specs.Prelude.{◌≡◌, refl, Bool, true, false, cond, not, ◌&&◌, ℕ, zero, suc, length, get_or, drop, eqb, None}
use Rattle.std.proofs.Common.{sym, ◌∙◌, inl, inr, arith}
use Rattle.std.proofs.Math.Path.{ap}
use mathlib.Core.List.{List, [], ◌∷◌}
use Rattle.std.proofs.Math.Dec.{eqb-suc-zero}
use Rattle.model.specs.Numbers.{greater}
use Rattle.model.specs.Window.{Window, with_queue, with_high, with_frontier, with_attempted}
use Rattle.model.specs.Races.{is_empty}
use Rattle.model.specs.Records.{new_entry}
use Rattle.model.specs.Calls.{Ask, asks_in, put, puts, raised, started, noted, mark_requested}
use Rattle.model.specs.declared.Hash.{Hash}
use Rattle.laws.specs.Numbers.{both}
use Rattle.requests.specs.Asks.{hash_in, ask_at, asks_drop}

-- a list is empty when it has no elements
pub empty_length : {A : Type 0} (l : List A) → is_empty l ≡ eqb (length l) 0
empty_length [] = refl
empty_length (x ∷ l) = sym (eqb-suc-zero (length l))

-- the attempted owner goes where nothing is pending and n are asked for
abbrev pub forgotten : ℕ → Window → Window
forgotten n w = cond (eqb (length w.queue.pending) 0 && not (eqb n 0)) (with_attempted None w) w

-- queue and mean are as they were
pub forgotten_same : (n : ℕ) (w : Window) → ((forgotten n w).queue ≡ w.queue) × ((forgotten n w).mean ≡ w.mean)
forgotten_same n w = elim (both (eqb (length w.queue.pending) 0 && not (eqb n 0))) [ inl q ↦ rw q (refl, refl) | inr q ↦ rw q (refl, refl) ]

-- the owner's start is noted where n are asked for
abbrev pub waits : ℕ → ℕ → ℕ → Window → Window
waits n owner now w = cond (eqb n 0) w (with_queue (started owner now w.queue) w)

-- the high waters follow the queue, and the frontier the next height
abbrev pub risen : ℕ → Window → Window
risen next w = with_frontier (greater w.frontier next) (with_high (raised w.high w.queue) w)

-- what follows the puts of n entries
abbrev pub closed : ℕ → ℕ → ℕ → ℕ → Window → Window
closed n owner next now w = risen next (waits n owner now w)

abbrev pub filled : List Ask → ℕ → ℕ → Window → Window
filled asks owner now w = with_queue (puts asks owner now w.mean w.queue) w

-- `mark_requested` after the attempted owner
abbrev told : List Ask → ℕ → ℕ → ℕ → Window → Window
told asks owner next now w = with_frontier (greater (noted asks owner now w).frontier next) (noted asks owner now w)

row : (asks : List Ask) (owner next now : ℕ) (w : Window) → closed (length asks) owner next now (filled asks owner now w) ≡ told asks owner next now w
unfolding noted started raised
row [] owner next now w = refl
row (a ∷ asks) owner next now w = rw (eqb-suc-zero (length asks))

pub requested_row : (asks : List Ask) (owner next now : ℕ) (w : Window)
    → closed (length asks) owner next now (filled asks owner now (forgotten (length asks) w)) ≡ mark_requested asks owner next now w
unfolding mark_requested
requested_row asks owner next now w =
    let same : (eqb (length w.queue.pending) 0 && not (eqb (length asks) 0)) ≡ (is_empty w.queue.pending && not (is_empty asks)) =
    λ i. sym (empty_length w.queue.pending) i && not (sym (empty_length asks) i) in
    row asks owner next now (forgotten (length asks) w) ∙ ap (λ (b : Bool). told asks owner next now (cond b (with_attempted None w) w)) same

-- ---- a list of one

one_left : {A : Type 0} (x : A) (l k : List A) → l ≡ x ∷ k → length l ≡ 1 → l ≡ x ∷ []
one_left x l [] e n = e
one_left x l (y ∷ k) e n = absurd (omega (arith, ap length e, n))

module _ (hs ts : List ℕ) (one : length (asks_in hs ts) ≡ 1) where
  pub one_ask : asks_in hs ts ≡ ask_at hs ts 0 ∷ []
  one_ask = one_left (ask_at hs ts 0) (asks_in hs ts) (drop 1 (asks_in hs ts)) (asks_drop hs ts 0 (omega (arith, one))) one

  -- one put is all
  pub filled_one : (h : Hash) (owner now : ℕ) (w : Window) → h ≡ hash_in hs 0
      → with_queue (put (new_entry h owner now (get_or ts 0 0) w.mean) w.queue) w ≡ filled (asks_in hs ts) owner now w
  unfolding puts
  filled_one h owner now w e =
      ap (λ (g : Hash). with_queue (put (new_entry g owner now (get_or ts 0 0) w.mean) w.queue) w) e
      ∙ ap (λ (l : List Ask). filled l owner now w) (sym one_ask)

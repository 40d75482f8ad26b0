-- Rows of tests that all hold, taken apart and put together. Assumes nothing.
use Rattle.std.specs.Prelude.{◌≡◌, refl, Bool, true, ◌&&◌, List, [], ◌∷◌, ℕ, zero, suc, ◌≤◌, get_or}
use Rattle.std.proofs.Common.{leb-true}
use Rattle.model.specs.Numbers.{max_duration}
use Rattle.model.specs.Lists.{all, every}
use Rattle.model.specs.Layout.{settings_ok}
use Rattle.model.specs.declared.Settings.{Settings}
use Rattle.laws.specs.Numbers.{and_left, and_right}

-- each of some tests that all hold
pub hold : (bs : List Bool) → every bs ≡ true → (i : ℕ) → get_or bs i true ≡ true
unfolding every
hold [] e i = refl
hold (b ∷ bs) e zero = and_left b (every bs) e
hold (b ∷ bs) e (suc i) = hold bs (and_right b (every bs) e) i

-- a row is put together by this, with `every` unfolded
pub and_so : {a b : Bool} → a ≡ true → b ≡ true → (a && b) ≡ true
and_so {a} {b} p q = λ i. p i && q i

module _ {A : Type 0} (p : A → Bool) where
  pub all_first : (x : A) (l : List A) → all p (x ∷ l) ≡ true → p x ≡ true
  unfolding all
  all_first x l e = and_left (p x) (all p l) e

  pub all_rest : (x : A) (l : List A) → all p (x ∷ l) ≡ true → all p l ≡ true
  unfolding all
  all_rest x l e = and_right (p x) (all p l) e

-- ---- settings in range

pub initial_le : (b : Settings) → settings_ok b ≡ true → b.stall_timeout_initial ≤ max_duration
unfolding settings_ok
initial_le b e = leb-true b.stall_timeout_initial max_duration (hold _ e 9)

pub most_le : (b : Settings) → settings_ok b ≡ true → b.stall_timeout_max ≤ max_duration
unfolding settings_ok
most_le b e = leb-true b.stall_timeout_max max_duration (hold _ e 10)

pub blocks_le : (b : Settings) → settings_ok b ≡ true → b.max_pending_blocks ≤ 256
unfolding settings_ok
blocks_le b e = leb-true b.max_pending_blocks 256 (hold _ e 0)

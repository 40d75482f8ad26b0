-- What the lists that are lent for a plan are refused by, as numbers. Assumes nothing.
use Rattle.std.specs.Prelude.{◌≡◌, refl, Bool, true, List, [], ◌∷◌, length, eqb, leb}
use Rattle.std.proofs.Common.{ap, ◌∙◌}
use Prim.Native.Nat.{ℕ, suc, ◌*◌, ◌≤◌, ◌<◌}
use borrow.Author.Tests.{eq-eqb, ne_eqb, le-leb, lt-leb, eqb-true, leb-true}
use Rattle.model.specs.Numbers.{max_pending}
use Rattle.model.specs.Lists.{every}
use Rattle.model.specs.Window.{Window}
use Rattle.model.specs.Planning.{Lent}
use Rattle.model.specs.Refusals.{Moment, checking, test, plan_refusal, window_refusal}
use Rattle.laws.specs.Every.{hold}
use Rattle.laws.specs.Kept.{passed}

-- `plan_refusal`, by the lengths of the lists
unfoldable pub lists_refusal : ℕ → ℕ → ℕ → ℕ → Window → ℕ
lists_refusal chain tip hash_words heights w =
    test 12 (eqb chain (4 * suc tip)) (test 10 (every (leb (4 * max_pending) hash_words ∷ leb max_pending heights ∷ [])) 0)

-- r is that, whatever the window
abbrev pub ListsRefused : ℕ → ℕ → ℕ → ℕ → ℕ → Type 0
ListsRefused chain tip hash_words heights r = (w : Window) → r ≡ lists_refusal chain tip hash_words heights w

pub lists_are : (l : Lent) (hash_words heights : ℕ) → lists_refusal (length l.chain) l.tip hash_words heights ≡ plan_refusal l hash_words heights
unfolding lists_refusal plan_refusal
lists_are l hash_words heights = refl

-- what a call that plans is refused by, as the code finds it by the lengths, and as the definition has it
pub refused_as : (l : Lent) (hash_words heights : ℕ) (m : Moment) (p : Bool) (ws : List ℕ) (room n : ℕ) → n ≡ window_refusal (checking true m p (lists_refusal (length l.chain) l.tip hash_words heights)) ws room
    → n ≡ window_refusal (checking true m p (plan_refusal l hash_words heights)) ws room
refused_as l hash_words heights m p ws room n e = e ∙ ap (λ (f : Window → ℕ). window_refusal (checking true m p f) ws room) (lists_are l hash_words heights)

module _ (chain tip hash_words heights : ℕ) (w : Window) where
  pub lists_12 : (chain ≡ 4 * suc tip → ⊥) → 12 ≡ lists_refusal chain tip hash_words heights w
  unfolding lists_refusal
  lists_12 n = rw (ne_eqb chain (4 * suc tip) n)

  module _ (n : chain ≡ 4 * suc tip) where
    pub few_words_10 : hash_words < 1024 → 10 ≡ lists_refusal chain tip hash_words heights w
    unfolding lists_refusal every
    few_words_10 h = rw (eq-eqb chain (4 * suc tip) n, lt-leb 1024 hash_words h)

    module _ (h : 1024 ≤ hash_words) where
      pub few_heights_10 : heights < 256 → 10 ≡ lists_refusal chain tip hash_words heights w
      unfolding lists_refusal every
      few_heights_10 k = rw (eq-eqb chain (4 * suc tip) n, le-leb 1024 hash_words h, lt-leb 256 heights k)

      pub lists_0 : 256 ≤ heights → 0 ≡ lists_refusal chain tip hash_words heights w
      unfolding lists_refusal every
      lists_0 k = rw (eq-eqb chain (4 * suc tip) n, le-leb 1024 hash_words h, le-leb 256 heights k)

-- what an accepted plan may rely on
pub record Lendable (l : Lent) (n m : ℕ) : Type 0 where
  pub chain : length l.chain ≡ 4 * suc l.tip
  pub hashes : 1024 ≤ n
  pub heights : 256 ≤ m

pub lendable : (l : Lent) (hash_words heights : ℕ) (w : Window) → plan_refusal l hash_words heights w ≡ 0 → Lendable l hash_words heights
unfolding plan_refusal
lendable l hash_words heights w q =
    let a = passed 11 (eqb (length l.chain) (4 * suc l.tip)) _ q in
    let b = passed 9 (every (leb (4 * max_pending) hash_words ∷ leb max_pending heights ∷ [])) 0 a.1 in
    record {
      chain = eqb-true (length l.chain) (4 * suc l.tip) a.0;
      hashes = leb-true 1024 hash_words (hold _ b.0 0);
      heights = leb-true 256 heights (hold _ b.0 1);
    }

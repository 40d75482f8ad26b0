-- Marks made one after the other, for the records that the words say: the first i are F of the first i records. Assumes nothing.
use mathlib.Core.Path.{◌≡◌, refl, ap, ◌∙◌}
use mathlib.Core.List.{List, map}
use Prim.Native.Nat.{ℕ, ◌+◌, ◌<◌}
use native.Mathlib.Omega.{arith}
use native.Mathlib.Numerals.{add-one}
use lib.ListN.{length, take, set, get_or, replicate, length-set}
use lib.Seq.{take_all}
use Rattle.model.specs.declared.Entry.{Entry}
use Rattle.model.specs.Layout.{blank, window_of}
use Rattle.laws.specs.Pending.{marks_step, pending_few}

pub record Marked (F : Entry → ℕ) (ws : List ℕ) (i : ℕ) (marks : List ℕ) : Type 0 where
  pub long : length marks ≡ 256
  pub first : take i marks ≡ map F (take i (window_of ws).queue.pending)

module _ (F : Entry → ℕ) (ws : List ℕ) where
  pub none_made : Marked F ws 0 (replicate 256 0)
  none_made = record { long = refl; first = refl }

  pub one_more : (i v : ℕ) (marks : List ℕ) → i < length (window_of ws).queue.pending → v ≡ F (get_or (window_of ws).queue.pending i blank) → Marked F ws i marks → Marked F ws (i + 1) (set marks i v)
  one_more i v marks h is m = rw add-one (record { long = simp length-set m.long; first = marks_step F (window_of ws).queue.pending marks i v blank h (omega (arith, pending_few ws, m.long)) m.first is })

  pub all_made : (i n : ℕ) (marks : List ℕ) → i ≡ n → n ≡ length (window_of ws).queue.pending → Marked F ws i marks → take n marks ≡ map F (window_of ws).queue.pending
  all_made i n marks e c m = (rw e at m.first) ∙ ap (map F) (take_all n (window_of ws).queue.pending (omega arith))

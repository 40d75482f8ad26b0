-- The test of a probe's alternates, as the code makes it. Assumes nothing.
use Rattle.std.specs.Prelude.{◌≡◌, true, false, ◌&&◌, List, ℕ, suc, ◌+◌, ◌≤◌, ◌<◌, leb, length, get_or, drop}
use Rattle.std.proofs.Math.Path.{sym, ap}
use Rattle.std.proofs.Common.{◌∙◌, add-one, le-leb, drop-cons}
use Rattle.std.proofs.Math.Bool.{and-true}
use Rattle.std.proofs.lemmas.Bool.{lt-leb}
use Rattle.std.proofs.Math.Seq.{drop-length}
use Rattle.model.specs.Numbers.{max_seat}
use Rattle.model.specs.Lists.{all, every}
use Rattle.model.specs.Refusals.{seat_ok, alternates_ok}

module _ (l : List ℕ) where
  pub alternates_many : 256 < length l → false ≡ alternates_ok l
  unfolding alternates_ok every
  alternates_many n = rw (lt-leb (length l) 256 n)

  pub alternates_start : length l ≤ 256 → alternates_ok l ≡ all seat_ok (drop 0 l)
  unfolding alternates_ok every
  alternates_start n = rw (le-leb (length l) 256 n) (and-true (all seat_ok l))

  -- those before i are in range
  module _ (i : ℕ) (e : alternates_ok l ≡ all seat_ok (drop i l)) where
    alternates_by : i < length l → alternates_ok l ≡ (leb (get_or l i 0) max_seat && all seat_ok (drop (suc i) l))
    unfolding all
    alternates_by h = e ∙ ap (all seat_ok) (drop-cons l i 0 h)

    pub alternates_wrong : i < length l → max_seat < get_or l i 0 → false ≡ alternates_ok l
    alternates_wrong h m = sym (alternates_by h ∙ (λ j. lt-leb (get_or l i 0) max_seat m j && all seat_ok (drop (suc i) l)))

    pub alternates_next : i < length l → get_or l i 0 ≤ max_seat → alternates_ok l ≡ all seat_ok (drop (i + 1) l)
    alternates_next h m = alternates_by h ∙ (λ j. le-leb (get_or l i 0) max_seat m j && all seat_ok (drop (sym (add-one i) j) l))

    pub alternates_done : i ≡ length l → true ≡ alternates_ok l
    unfolding all
    alternates_done h = sym (e ∙ ap (λ (k : ℕ). all seat_ok (drop k l)) h ∙ ap (all seat_ok) (drop-length l))

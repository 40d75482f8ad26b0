-- A table of seats that is back in the words with other words, y: what the words say then. Assumes nothing.
use mathlib.Core.Path.{◌≡◌, ap, ◌∙◌}
use mathlib.Core.List.{List}
use Prim.Native.Nat.{ℕ}
use lib.ListN.{length, take, drop}
use Rattle.model.specs.Layout.{decode}
use Rattle.laws.specs.Tables.{with_starts, with_bodies, with_racers, decode_starts, decode_bodies, decode_racers, sized_decode}
use Rattle.column.proofs.Parts.{put}

module _ (ws y l : List ℕ) (n : length ws ≡ 4096) (e : y ≡ l) where
  pub starts_back : length y ≡ length (take 256 (drop 2304 ws)) → decode (put 2304 256 ws y) ≡ with_starts l (decode ws)
  unfolding decode
  starts_back long = decode_starts ws y n (long ∙ (sized_decode ws n).starts) ∙ ap (λ (z : List ℕ). with_starts z (decode ws)) e

  pub bodies_back : length y ≡ length (take 256 (drop 2560 ws)) → decode (put 2560 256 ws y) ≡ with_bodies l (decode ws)
  unfolding decode
  bodies_back long = decode_bodies ws y n (long ∙ (sized_decode ws n).bodies) ∙ ap (λ (z : List ℕ). with_bodies z (decode ws)) e

  pub racers_back : length y ≡ length (take 256 (drop 3328 ws)) → decode (put 3328 256 ws y) ≡ with_racers l (decode ws)
  unfolding decode
  racers_back long = decode_racers ws y n (long ∙ (sized_decode ws n).racers) ∙ ap (λ (z : List ℕ). with_racers z (decode ws)) e

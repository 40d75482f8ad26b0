-- `seats::keep_seats` meets its contract. Assumes nothing.
use mathlib.Core.Path.{◌≡◌, ap, ◌∙◌}
use mathlib.Core.List.{List}
use Prim.Native.Nat.{ℕ}
use native.Mathlib.Omega.{arith}
use lib.ListN.{length, take, drop}
use Rattle.model.specs.Seats.{keep_seats}
use Rattle.model.specs.LettingGo.{flagged}
use Rattle.model.specs.Layout.{decode}
use Rattle.laws.specs.Tables.{with_starts, with_bodies, sized_decode}
use Rattle.column.proofs.Parts.{put, put_long, put_higher}
use Rattle.laws.specs.Tables.{kept_seats}
use Rattle.seats.proofs.Written.{starts_back, bodies_back}
use Rattle.seats.proofs.keep_seats.Goals as goal

-- the starts back, and then the last bodies
kept_both : (F : List ℕ → List ℕ) (ws y z : List ℕ) → length ws ≡ 4096 → length y ≡ length (take 256 (drop 2304 ws)) → y ≡ F (take 256 (drop 2304 ws))
    → length z ≡ length (take 256 (drop 2560 (put 2304 256 ws y))) → z ≡ F (take 256 (drop 2560 (put 2304 256 ws y)))
    → decode (put 2560 256 (put 2304 256 ws y) z) ≡ with_bodies (F (decode ws).bodies) (with_starts (F (decode ws).starts) (decode ws))
unfolding decode
kept_both F ws y z n long e long' e' =
    let first : length y ≡ 256 = long ∙ (sized_decode ws n).starts in
    let n' : length (put 2304 256 ws y) ≡ 4096 = put_long 2304 256 ws y (omega arith) first ∙ n in
    bodies_back (put 2304 256 ws y) z _ n' (e' ∙ ap F (put_higher 2304 256 ws y (omega arith) first 2560 256 (omega arith))) long' ∙ ap (with_bodies (F (decode ws).bodies)) (starts_back ws y _ n e long)

pub returns : goal.returns
unfolding kept_seats
returns c =
    let a = c.args in
    let first = c.keep_flagged in
    let second = c.keep_flagged-2 in
    kept_both (keep_seats (flagged a.flags.now) 0) a.words.now first.new.col second.new.col c.told-words first.auto.col first.ensures
    second.auto.col second.ensures

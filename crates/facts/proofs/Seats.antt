-- What the condition on a seat's words says of them. Assumes nothing.
use Rattle.std.specs.Prelude.{◌&&◌, List, ℕ, leb}
use Rattle.model.specs.Numbers.{max_seat}
use Rattle.facts.specs.Flags.{Says, says_le, says_and, says_iff}
use Rattle.facts.specs.Words.{at, count, latest, start, body, seat_key, cooling, racer, oldest_of, start_by, most_raced, seat_by, seat_fits}
use Rattle.facts.specs.Seats.{start_says, Seat}

pub seat_says : (ws : List ℕ) (s : ℕ) → Says (seat_fits ws s) (Seat ws s)
unfolding seat_fits seat_by
seat_says ws s =
    let late = latest ws in
    let a = start_by late (oldest_of ws s (count ws)) (start ws s) in
    let b = leb (body ws s) late in
    let c = leb (seat_key ws s) max_seat in
    let d = leb (cooling ws s) late in
    says_iff
    (says_and (a && b && c && d) (leb (racer ws s) (most_raced (at ws 61)))
    (says_and (a && b && c) d (says_and (a && b) c (says_and a b (start_says late (oldest_of ws s (count ws)) (start ws s)) (says_le (body ws s) late))
    (says_le (seat_key ws s) max_seat)) (says_le (cooling ws s) late)) (says_le (racer ws s) (most_raced (at ws 61))))
    (λ p. record { starts = p.0.0.0.0; bodies = p.0.0.0.1; keys = p.0.0.1; cools = p.0.1; races = p.1 })
    (λ r. ((((r.starts, r.bodies), r.keys), r.cools), r.races))

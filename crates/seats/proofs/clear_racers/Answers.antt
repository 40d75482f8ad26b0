-- `seats::clear_racers` meets its contract. Assumes nothing.
use mathlib.Core.Path.{◌≡◌, ap, ◌∙◌}
use Prim.Native.Nat.{ℕ, ◌-◌}
use native.Mathlib.Omega.{arith}
use lib.ListN.{length, take, drop, replicate}
use Rattle.model.specs.Layout.{decode}
use Rattle.laws.specs.Tables.{sized_decode}
use Rattle.seats.proofs.Written.{racers_back}
use Rattle.seats.proofs.clear_racers.Goals as goal

pub returns : goal.returns
unfolding decode
returns c =
    let at_call = c in
    let at-start = at_call in
    let ws = at-start.args.words.now in
    let e : length (take 256 (drop 3328 ws)) - 0 ≡ 256 = omega (arith, (sized_decode ws at-start.told-words).racers) in
    racers_back ws at_call.clear_from.new.col _ at-start.told-words (at_call.clear_from.ensures ∙ ap (λ (k : ℕ). replicate k 0) e) at_call.clear_from.auto.col

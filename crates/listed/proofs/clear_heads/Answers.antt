-- `listed::clear_heads` meets its contract: what `fill` leaves is so many zeros. Assumes nothing.
use Rattle.std.proofs.Common.{◌≡◌, ℕ, List, length, take, get_or, ap, ◌∙◌, arith, length-take-le}
use Rattle.std.proofs.Math.ListN.{get_or-append}
use Rattle.std.proofs.lemmas.List.{get_or-replicate}
use Rattle.listed.proofs.clear_heads.Goals as goal

pub returns : goal.returns
returns c = λ k h.
    let heads = c.fill.new.self in
    let few : length (take 1024 c.args.index.now) ≡ 1024 = length-take-le 1024 c.args.index.now c.requires in
    get_or-append heads _ 0 k (omega (arith, c.fill.ensures.len))
    ∙ ap (λ (l : List ℕ). get_or l k 0) (c.fill.ensures.after (λ y e. e))
    ∙ get_or-replicate _ k 0 0 (omega arith)

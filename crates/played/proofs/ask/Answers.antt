-- `played::ask` meets its contract. Assumes nothing.
use mathlib.Core.Path.{◌≡◌, ◌∙◌, ap, refl, sym}
use Prim.Native.Nat.{ℕ, min}
use lib.Seq.{length-take-le}
use lib.ListN.{length, replicate, take}
use native.Mathlib.Omega.{arith}
use Rattle.lend.specs.Goes.{leaves_as, quiet_change}
use Rattle.model.specs.Refusals.{changes, requests}
use Rattle.model.specs.Says.{requested_says}
use Rattle.played.specs.Steps.{asking, handed, number_of, request_blocks, request_said, requesting, room, spoken}
use Rattle.played.specs.Told.{number_told, plays_opening, request_opens, request_told}
use Rattle.played.proofs.ask.Goals as goal

pub slice_bounds-mark_requested-end : goal.slice_bounds-mark_requested-end
slice_bounds-mark_requested-end c = sym (length-take-le _ _ (omega arith))

pub returns : goal.returns
returns c =
    let a = c.args in
    let mean = c.ewma_block_bytes-mean in
    let s = a.s in
    let l : c.min-k.result ≡ handed a.p a.heights.now = c.min-k.ensures ∙ ap (λ (x : ℕ). min x (length a.heights.now)) c.count_of-count.ensures in
    let n = sym c.next_of.ensures in
    let r = c.mark_requested-r.result in
    plays_opening (asking s a.p a.hashes.now a.heights.now) a.b _ _ _ _ _ _ _ (quiet_change _ refl)
    (leaves_as _ (requesting s a.p a.hashes.now a.heights.now) _
    (λ i. changes (requests s.clock s.peer a.hashes.now (take (sym l i) a.heights.now) (n i) room room)) _ _ c.mark_requested-r.ensures)
    (ap spoken c.requested.ensures ∙ request_told r _ (replicate 2304 0) ∙ (λ i. request_said (l i) (requested_says r) (replicate 2304 0)))
    c.requested-2.ensures (request_opens r _ ∙ (λ i. request_blocks (l i) (requested_says r)))
    (number_told mean.result ∙ ap number_of mean.ensures)

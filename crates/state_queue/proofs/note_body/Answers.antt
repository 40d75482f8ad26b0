-- `state_queue::note_body` meets its contract. Assumes nothing.
use native.Mathlib.Omega.{arith}
use mathlib.Core.Path.{refl}
use Prim.Native.Nat.{suc}
use lib.ListN.{set}
use Rattle.model.specs.Calls.{body_noted}
use Rattle.laws.specs.Tables.{with_bodies}
use lib.ListN.{length-set}
use Rattle.model.specs.Layout.{window_of}
use Rattle.state_queue.specs.Steps.{seated, body_in}
use Rattle.state_queue.proofs.note_body.Goals as goal

pub returns : goal.returns
unfolding body_noted
returns c =
    let ws = c.args.words.now in
    let whole = c.requires.0 in
    let a = c.args in
    seated ws whole _ (λ t. with_bodies (set t.bodies a.source (suc a.clock)) t) _ _ (omega arith) c.note_body.ensures
    (body_in (window_of ws) a.source a.clock) refl (length-set (window_of ws).queue.bodies a.source _)

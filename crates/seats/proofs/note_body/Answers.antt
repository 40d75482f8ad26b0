-- `seats::note_body` meets its contract. Assumes nothing.
use mathlib.Core.Path.{ap, ◌∙◌}
use Prim.Native.Nat.{ℕ}
use native.Mathlib.Numerals.{add-one}
use lib.ListN.{set}
use Rattle.model.specs.Layout.{decode}
use Rattle.laws.specs.Tables.{with_bodies}
use Rattle.seats.proofs.note_body.Goals as goal

pub returns : goal.returns
returns c =
    let a = c.args in
    let t = decode a.words.now in
    c.set_body.ensures ∙ ap (λ (s : ℕ). with_bodies (set t.bodies a.seat s) t) (add-one a.clock)
